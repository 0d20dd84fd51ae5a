-- One step of a loop.
use Rattle.std.proofs.Common.{◌≡◌, ℕ, ◌+◌, ◌-◌, ◌<◌, List, ◌∷◌, ◌++◌, length, drop, take, get_or, Option, Some, option_to_list, refl, sym, ap, ◌∙◌, subst, append_assoc}
use Rattle.std.proofs.lemmas.List.{drop_more, take_rest}
use Rattle.cli_config.specs.declared.lexemes.LexemeAt.{LexemeAt}
use Rattle.cli_config.specs.declared.lexemes.LexemeKind.TheVariants.{OpenObject}
use Rattle.cli_config.specs.declared.walk.Walk.{Walk}
use Rattle.cli_config.specs.Grammar.{Standing, fault_after, fault_from, step}
use Rattle.cli_config.specs.LocatedMembers.{Seen, spot_in, spots_from, walk_after}

-- the member or operator at a lexeme, before those after it
walk_one : (bytes : List ℕ) (walk : Walk) (m : LexemeAt) (rest ms : List LexemeAt) → ms ≡ m ∷ rest
    → spots_from bytes walk ms ≡ option_to_list (spot_in bytes walk ms) ++ spots_from bytes (walk_after walk m.sign (spot_in bytes walk ms)) rest
walk_one bytes walk m rest ms e =
    subst (λ (ms : List LexemeAt). spots_from bytes walk ms ≡ option_to_list (spot_in bytes walk ms) ++ spots_from bytes (walk_after walk m.sign (spot_in bytes walk ms)) rest) (sym e) refl

pub walk_on : (bytes : List ℕ) (walk next : Walk) (marks : List LexemeAt) (i : ℕ) (d : LexemeAt) (spot : Option Seen) (done more whole : List Seen) → i < length marks
    → spot ≡ spot_in bytes walk (take (length marks - i) (drop i marks))
    → next ≡ walk_after walk (get_or marks i d).sign spot
    → more ≡ done ++ option_to_list spot
    → done ++ spots_from bytes walk (drop i marks) ≡ whole
    → more ++ spots_from bytes next (drop (i + 1) marks) ≡ whole
walk_on bytes walk next marks i d spot done more whole within found goes grown is =
    let here : spot ≡ spot_in bytes walk (drop i marks) = found ∙ ap (spot_in bytes walk) (take_rest marks i) in
    let one = walk_one bytes walk (get_or marks i d) (drop (i + 1) marks) (drop i marks) (drop_more marks i d within) in
    ap (λ xs. xs ++ spots_from bytes next (drop (i + 1) marks)) grown
    ∙ append_assoc done (option_to_list spot) (spots_from bytes next (drop (i + 1) marks))
    ∙ ap (λ w. done ++ (option_to_list spot ++ spots_from bytes w (drop (i + 1) marks))) goes
    ∙ ap (λ o. done ++ (option_to_list o ++ spots_from bytes (walk_after walk (get_or marks i d).sign o) (drop (i + 1) marks))) here
    ∙ ap (λ xs. done ++ xs) (sym one)
    ∙ is

-- a lexeme that is allowed where it is
fault_one : (bytes : List ℕ) (s t : Standing) (m : LexemeAt) (rest ms : List LexemeAt) → ms ≡ m ∷ rest → step bytes s ms ≡ Some t → fault_from bytes s ms ≡ fault_from bytes t rest
fault_one bytes s t m rest ms e is =
    ap (fault_from bytes s) e ∙ ap (λ o. fault_after m.at o (λ u. fault_from bytes u rest)) (ap (step bytes s) (sym e) ∙ is)

pub fault_on : (bytes : List ℕ) (s t : Standing) (marks : List LexemeAt) (i whole : ℕ) → i < length marks
    → step bytes s (take (length marks - i) (drop i marks)) ≡ Some t
    → fault_from bytes s (drop i marks) ≡ whole
    → fault_from bytes t (drop (i + 1) marks) ≡ whole
fault_on bytes s t marks i whole within goes is =
    let d : LexemeAt = record { at = 0; sign = OpenObject } in
    sym (fault_one bytes s t (get_or marks i d) (drop (i + 1) marks) (drop i marks) (drop_more marks i d within) (ap (step bytes s) (sym (take_rest marks i)) ∙ goes)) ∙ is
