-- Rows of days, group by group.
use Rattle.std.proofs.Common.{◌≡◌, ℕ, List, [], ◌∷◌, ◌++◌, length, refl, sym, ap, subst, ◌∙◌, append_assoc, arith}
use Rattle.std.proofs.lemmas.List.{append-nil}
use Rattle.cli_report.specs.Days.{grouped}
use Rattle.cli_report.specs.Texts.{Appends, Spells}
use Rattle.cli_report.specs.declared.days.DaySample.{DaySample}

-- the texts of the groups that are left go on behind those so far
abbrev pub GoesOn : (List DaySample → List ℕ → Type 0) → (all left : List DaySample) → List ℕ → List ℕ → Type 0
GoesOn IsText all left =
    Appends (λ text. (rest : List ℕ) → Spells IsText (grouped left) rest → Spells IsText (grouped all) (text ++ rest))

pub none_yet : (IsText : List DaySample → List ℕ → Type 0) (all : List DaySample) (old : List ℕ) → GoesOn IsText all all old old
none_yet IsText all old = ([], λ rest h. h, sym (append-nil old))

pub one_more : (IsText : List DaySample → List ℕ → Type 0) (all left after group : List DaySample) (first old new : List ℕ)
    → grouped left ≡ group ∷ grouped after → GoesOn IsText all left first old → Appends (IsText group) old new → GoesOn IsText all after first new
one_more IsText all left after group first old new is so_far made = (
  so_far.0 ++ made.0,
  λ rest h. subst (Spells IsText (grouped all)) (sym (append_assoc so_far.0 made.0 rest))
      (so_far.1 (made.0 ++ rest) (subst (λ groups. Spells IsText groups (made.0 ++ rest)) (sym is) (made.0, rest, made.1, h, refl))),
  made.2 ∙ ap (λ s. s ++ made.0) so_far.2 ∙ append_assoc first so_far.0 made.0,
)

pub none : (left : List DaySample) → length left ≡ 0 → left ≡ []
none [] h = refl
none (s ∷ left) h = grind arith

pub all_told : (IsText : List DaySample → List ℕ → Type 0) (all left : List DaySample) (first new : List ℕ) → length left ≡ 0
    → GoesOn IsText all left first new → Appends (Spells IsText (grouped all)) first new
all_told IsText all left first new empty so_far = (
  so_far.0,
  subst (Spells IsText (grouped all)) (append-nil so_far.0) (so_far.1 [] (subst (λ ys. Spells IsText (grouped ys) []) (sym (none left empty)) refl)),
  so_far.2,
)
