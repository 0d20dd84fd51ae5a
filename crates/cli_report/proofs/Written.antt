-- Pieces of a page, put together.
use Rattle.std.proofs.Common.{◌≡◌, ℕ, List, [], ◌∷◌, ◌++◌, Bool, true, false, if◌then◌else◌, refl, sym, ap, subst, ◌∙◌, append_assoc}
use Rattle.std.specs.List.{flat_map}
use Rattle.mds_match.specs.Zone.{ZoneKind}
use Rattle.cli_report.specs.Cells.{Cell, IsText}
use Rattle.cli_report.specs.Pieces.{IsPiece, escaped, markup, value}
use Rattle.cli_report.specs.Texts.{Appends, Spells}

pub markup_made : (zone : ZoneKind) (text old new : List ℕ) → new ≡ old ++ text → Appends (IsPiece zone (markup text)) old new
unfolding IsPiece
markup_made zone text old new made = (text, refl, made)

pub value_made : (zone : ZoneKind) (c : Cell) (plain bytes old new : List ℕ) → IsText zone c plain → bytes ≡ plain → new ≡ old ++ escaped bytes
    → Appends (IsPiece zone (value c)) old new
unfolding IsPiece
value_made zone c plain bytes old new is same made = (escaped plain, (plain, is, refl), made ∙ ap (λ b. old ++ escaped b) same)

-- some, and others behind them
spells_both : {A : Type 0} (IsText : A → List ℕ → Type 0) (xs ys : List A) (one other : List ℕ) → Spells IsText xs one → Spells IsText ys other
    → Spells IsText (xs ++ ys) (one ++ other)
spells_both IsText [] ys one other h k = subst (Spells IsText ys) (ap (λ s. s ++ other) (sym h)) k
spells_both IsText (x ∷ xs) ys one other h k =
    (h.0, h.1 ++ other, h.2, spells_both IsText xs ys h.1 other h.3 k, ap (λ s. s ++ other) h.4 ∙ append_assoc h.0 h.1 other)

pub both : {A : Type 0} (IsText : A → List ℕ → Type 0) (xs ys : List A) (old mid new : List ℕ) → Appends (Spells IsText xs) old mid
    → Appends (Spells IsText ys) mid new → Appends (Spells IsText (xs ++ ys)) old new
both IsText xs ys old mid new one other = (
  one.0 ++ other.0,
  spells_both IsText xs ys one.0 other.0 one.1 other.1,
  other.2 ∙ ap (λ s. s ++ other.0) one.2 ∙ append_assoc old one.0 other.0,
)

-- texts of lists are the text of what they come to
flattened : {A B : Type 0} (IsText : B → List ℕ → Type 0) (f : A → List B) (xs : List A) (text : List ℕ)
    → Spells (λ x. Spells IsText (f x)) xs text → Spells IsText (flat_map f xs) text
flattened IsText f [] text h = h
flattened IsText f (x ∷ xs) text h =
    subst (Spells IsText (flat_map f (x ∷ xs))) (sym h.4)
    (spells_both IsText (f x) (flat_map f xs) h.0 h.1 h.2 (flattened IsText f xs h.1 h.3))

pub all_flat : {A B : Type 0} (IsText : B → List ℕ → Type 0) (f : A → List B) (xs : List A) (old new : List ℕ)
    → Appends (Spells (λ x. Spells IsText (f x)) xs) old new → Appends (Spells IsText (flat_map f xs)) old new
all_flat IsText f xs old new h = (h.0, flattened IsText f xs h.0 h.1, h.2)

-- where nothing stands in front
pub alone : {A : Type 0} (IsText : A → List ℕ → Type 0) (xs : List A) (new : List ℕ) → Appends (Spells IsText xs) [] new → Spells IsText xs new
alone IsText xs new h = subst (Spells IsText xs) (sym h.2) h.1

-- one list of two, by a test
pub first_of_two : {A : Type 0} (IsText : A → List ℕ → Type 0) (test : Bool) (xs ys : List A) (old new : List ℕ) → test ≡ true
    → Appends (Spells IsText xs) old new → Appends (Spells IsText (if test then xs else ys)) old new
first_of_two IsText test xs ys old new is h =
    subst (λ (t : Bool). Appends (Spells IsText (if t then xs else ys)) old new) (sym is) h

pub second_of_two : {A : Type 0} (IsText : A → List ℕ → Type 0) (test : Bool) (xs ys : List A) (old new : List ℕ) → test ≡ false
    → Appends (Spells IsText ys) old new → Appends (Spells IsText (if test then xs else ys)) old new
second_of_two IsText test xs ys old new is h =
    subst (λ (t : Bool). Appends (Spells IsText (if t then xs else ys)) old new) (sym is) h
