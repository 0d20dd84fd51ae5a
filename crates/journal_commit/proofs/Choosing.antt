-- Items are chosen one after another.
use Rattle.std.proofs.Common.{◌≡◌, Bool, true, false, cond, List, [], ◌∷◌, ◌++◌, drop, get_or, length, map, refl, sym, ap, ◌∙◌, append_assoc, arith}
use Rattle.std.specs.Prelude.{◌&&◌}
use Rattle.std.proofs.lemmas.Bool.{and_parts}
use Rattle.std.proofs.lemmas.List.{append-nil}
use Rattle.journal_commit.specs.Durable.{chosen}

by_flag : {A : Type 0} (flag : Bool) (item : A) (others : List A) → cond flag (item ∷ others) others ≡ cond flag (item ∷ []) [] ++ others
by_flag true item others = refl
by_flag false item others = refl

chosen_first : {A : Type 0} (flags : List Bool) (item : A) (items : List A)
    → chosen flags (item ∷ items) ≡ cond (get_or flags 0 false) (item ∷ []) [] ++ chosen (drop 1 flags) items
chosen_first [] item items = refl
chosen_first (flag ∷ flags) item items = by_flag flag item (chosen flags items)

-- one more item is appended where it is chosen, and the choice among the others is still to come
pub chosen_next : {A : Type 0} (flags others : List Bool) (item : A) (left rest so_far now all : List A) (flag before settled after : Bool)
    → left ≡ item ∷ rest → flag ≡ get_or flags 0 false → others ≡ drop 1 flags → after ≡ (before && settled)
    → (before ≡ true → so_far ++ chosen flags left ≡ all) → (settled ≡ true → now ≡ so_far ++ cond flag (item ∷ []) [])
    → after ≡ true → now ++ chosen others rest ≡ all
chosen_next flags others item left rest so_far now all flag before settled after left_is flag_is others_is after_is was is done =
    let both = and_parts before settled (sym after_is ∙ done) in
    let first = cond (get_or flags 0 false) (item ∷ []) [] in
    ap (λ fs. now ++ chosen fs rest) others_is
    ∙ ap (λ xs. xs ++ chosen (drop 1 flags) rest) (is both.1 ∙ ap (λ b. so_far ++ cond b (item ∷ []) []) flag_is)
    ∙ append_assoc so_far first (chosen (drop 1 flags) rest)
    ∙ ap (λ xs. so_far ++ xs) (sym (chosen_first flags item rest) ∙ ap (chosen flags) (sym left_is))
    ∙ was both.0

none_chosen : {A : Type 0} (flags : List Bool) → chosen {A = A} flags [] ≡ []
none_chosen [] = refl
none_chosen (flag ∷ flags) = refl

-- nothing is left to choose from
pub chosen_over : {A B : Type 0} (item : B → A) (flags : List Bool) (left : List B) (so_far all : List A) → length left ≡ 0
    → so_far ++ chosen flags (map item left) ≡ all → so_far ≡ all
chosen_over item flags [] so_far all none is = sym (append-nil so_far) ∙ ap (λ xs. so_far ++ xs) (sym (none_chosen flags)) ∙ is
chosen_over item flags (first ∷ left) so_far all none is = absurd (omega (arith, none))
