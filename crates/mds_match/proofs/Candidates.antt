-- The rules that rows of one type in one state can meet.
use Rattle.std.proofs.Common.{◌≡◌, ℕ, ◌+◌, ◌<◌, Bool, true, false, cond, ◌&&◌, ◌||◌, Option, Some, None, List, [], ◌∷◌, ◌++◌, length, map, take, drop, get_or, slice_get, refl, sym, ap, subst, ◌∙◌, arith}
use Rattle.std.proofs.lemmas.List.{drop_more, length-take-le, take-append-drop, take_more}
use Rattle.std.proofs.lemmas.List.Folds.{find-append}
use Rattle.std.specs.List.{find, list_any, position}
use Rattle.std.specs.Option.{option_or}
use Rattle.mds_policy.specs.Policy.{States, rule_document}
use Rattle.mds_match.specs.Matching.{contains, shares, empty_or, state_fits}
use Rattle.mds_match.specs.Resolved.{names_state, can_meet, meets_number, resolved_meets}
use Rattle.mds_match.specs.Row.{Row}
use Rattle.mds_match.specs.declared.resolved.ResolvedRule.{ResolvedRule}
use Rattle.mds_match.proofs.Positions.{position_more}

neither : (a b c d : Bool) → (c ≡ false → d ≡ false) → (a || c) ≡ false → ((a && b) || d) ≡ false
neither true b c d later h = cc
neither false b c d later h = later h

no_entry : (row : Row) (states : List States) → list_any (names_state row.state) states ≡ false → list_any (state_fits row) states ≡ false
no_entry row [] h = refl
no_entry row (s ∷ ss) h = neither (names_state row.state s) _ (list_any (names_state row.state) ss) (list_any (state_fits row) ss) (no_entry row ss) h

no_state : (row : Row) (states : List States) → empty_or states (list_any (names_state row.state) states) ≡ false → empty_or states (list_any (state_fits row) states) ≡ false
no_state row [] h = h
no_state row (s ∷ ss) h = no_entry row (s ∷ ss) h

left_out : (is_open place type propulsion state named : Bool) → (named ≡ false → state ≡ false) → (is_open && (type && named)) ≡ false → (is_open && place && (type && propulsion && state)) ≡ false
left_out false place type propulsion state named only h = refl
left_out true false type propulsion state named only h = refl
left_out true true false propulsion state named only h = refl
left_out true true true false state named only h = refl
left_out true true true true state named only h = only h

-- a rule that rows of this type in this state can't meet is met by none of them
pub never_met : (rule : ResolvedRule) (row : Row) → can_meet rule row.vehicle_type row.state ≡ false → resolved_meets rule row ≡ false
never_met rule row h =
    let r = rule_document rule.rule.now in
    left_out rule.is_open _ _ _ _ _ (no_state row r.states) h

-- one more rule that rows can meet, in the list of indices and in that of the rules
pub with_number : {X : Type 0} (p : ℕ → Bool) (q : X → Bool) (numbers : List ℕ) (xs : List X) (x : X) → find p numbers ≡ position q xs → p (length xs) ≡ q x
    → find p (numbers ++ length xs ∷ []) ≡ position q (xs ++ x ∷ [])
with_number p q numbers xs x before same =
    find-append p numbers (length xs ∷ []) ∙ ap (λ n. option_or n (cond (p (length xs)) (Some (length xs)) None)) before
    ∙ ap (λ b. option_or (position q xs) (cond b (Some (length xs)) None)) same ∙ sym (position_more q xs x)

or_none : (n : Option ℕ) → option_or n None ≡ n
or_none None = refl
or_none (Some n) = refl

-- one more rule that rows can't meet
pub without_number : {X : Type 0} (q : X → Bool) (found : Option ℕ) (xs : List X) (x : X) → found ≡ position q xs → q x ≡ false → found ≡ position q (xs ++ x ∷ [])
without_number q found xs x before never =
    before ∙ sym (or_none (position q xs)) ∙ ap (λ b. option_or (position q xs) (cond b (Some (length xs)) None)) (sym never) ∙ sym (position_more q xs x)

-- the first element that passes, after others that don't
pub found_at : (p : ℕ → Bool) (xs : List ℕ) (i : ℕ) → i < length xs → find p (take i xs) ≡ None → p (get_or xs i 0) ≡ true → find p xs ≡ Some (get_or xs i 0)
found_at p xs i within none passes =
    let rest = get_or xs i 0 ∷ drop (i + 1) xs in
    let parts : take i xs ++ rest ≡ xs = ap (λ ys. take i xs ++ ys) (sym (drop_more xs i 0 within)) ∙ take-append-drop i xs in
    ap (find p) (sym parts) ∙ find-append p (take i xs) rest ∙ ap (λ n. option_or n (find p rest)) none
    ∙ ap (λ b. cond b (Some (get_or xs i 0)) (find p (drop (i + 1) xs))) passes

-- none passes so far, nor does the next
pub not_found : (p : ℕ → Bool) (xs : List ℕ) (i : ℕ) → i < length xs → find p (take i xs) ≡ None → p (get_or xs i 0) ≡ false → find p (take (i + 1) xs) ≡ None
not_found p xs i within none fails =
    ap (find p) (take_more xs i 0 within) ∙ find-append p (take i xs) (get_or xs i 0 ∷ [])
    ∙ ap (λ n. option_or n (find p (get_or xs i 0 ∷ []))) none ∙ ap (λ b. cond b (Some (get_or xs i 0)) None) fails
