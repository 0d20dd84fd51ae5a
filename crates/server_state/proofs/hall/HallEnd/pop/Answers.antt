use Rattle.std.proofs.Common.{rules, ◌≡◌, ◌∷◌, ◌++◌, [], map, sym, ap, ◌∙◌}
use Rattle.std.proofs.lemmas.List.{map-append}
use Rattle.server_state.proofs.hall.HallEnd.pop.Goals as goal

pub returns-then-has_published-clause-opening : goal.returns-then-has_published-clause-opening
returns-then-has_published-clause-opening g c =
    let rest = c.pop.new.self.items in
    let last = c.in_ok-last.last in
    let all : c.args.self.now.desks.items ≡ rest ++ last ∷ [] = search rules in
    let popped = ap (map (λ lock. lock.opening.front.seen.log)) all ∙ map-append (λ lock. lock.opening.front.seen.log) rest (last ∷ []) in
    popped ∙ ap (λ opening. map (λ lock. lock.opening.front.seen.log) rest ++ opening.front.seen.log ∷ []) (sym c.in_ok-ended.ensures.opening)
