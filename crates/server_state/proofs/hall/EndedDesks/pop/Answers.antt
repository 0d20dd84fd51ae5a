use Rattle.std.proofs.Common.{rules, ◌≡◌, ◌∷◌, ◌++◌, [], List, Option, Some, None, IfSome, map, sym, ap, ◌∙◌}
use Rattle.std.proofs.lemmas.List.{map-append}
use Rattle.server_state.proofs.hall.EndedDesks.pop.Goals as goal

of_some : {A : Type 0} {P Q : A → Type 0} (found : Option A) → ((x : A) → P x → Q x) → IfSome found P → IfSome found Q
of_some (Some x) imply p = imply x p
of_some None imply p = tt

pub returns-clause-opening : goal.returns-clause-opening
returns-clause-opening g c =
    let rest = c.pop.new.self.items in
    let desk = c.in_ok-desk.desk in
    let all : c.args.self.now.desks.items ≡ rest ++ desk ∷ [] = search rules in
    let popped = ap (map (λ lock. lock.opening.front.seen.log)) all ∙ map-append (λ lock. lock.opening.front.seen.log) rest (desk ∷ []) in
    of_some c.finish.result
    (λ ended is. popped ∙ ap (λ opening. map (λ lock. lock.opening.front.seen.log) rest ++ opening.front.seen.log ∷ []) (sym is))
    c.finish.ensures.opening
