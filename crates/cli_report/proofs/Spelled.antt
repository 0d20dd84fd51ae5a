-- Texts one behind the other.
use Rattle.std.proofs.Common.{◌≡◌, ℕ, ◌+◌, ◌<◌, List, [], ◌∷◌, ◌++◌, map, take, length, get_or, refl, sym, ap, subst, ◌∙◌, append_assoc}
use Rattle.std.proofs.lemmas.List.{append-nil, take_more}
use Rattle.cli_report.specs.Texts.{Appends, Spells}

-- one more of them
pub spelled_more : {A : Type 0} (IsText : A → List ℕ → Type 0) (xs : List A) (text : List ℕ) (x : A) (last : List ℕ) → Spells IsText xs text
    → IsText x last → Spells IsText (xs ++ x ∷ []) (text ++ last)
spelled_more IsText [] text x last h is = (last, [], is, refl, ap (λ s. s ++ last) h ∙ sym (append-nil last))
spelled_more IsText (y ∷ ys) text x last h is =
    (h.0, h.1 ++ last, h.2, spelled_more IsText ys h.1 x last h.3 is, ap (λ s. s ++ last) h.4 ∙ append_assoc h.0 h.1 last)

-- of what stands for others
pub spelled_map : {A B : Type 0} (IsText : B → List ℕ → Type 0) (f : A → B) (xs : List A) (text : List ℕ) → Spells (λ x. IsText (f x)) xs text
    → Spells IsText (map f xs) text
spelled_map IsText f [] text h = h
spelled_map IsText f (x ∷ xs) text h = (h.0, h.1, h.2, spelled_map IsText f xs h.1 h.3, h.4)

-- none so far
pub none_yet : {A : Type 0} (IsText : A → List ℕ → Type 0) (old : List ℕ) → Appends (Spells IsText []) old old
none_yet IsText old = ([], refl, sym (append-nil old))

-- one more behind those so far
pub one_more : {A : Type 0} (IsText : A → List ℕ → Type 0) (xs : List A) (i : ℕ) (x : A) (first old new : List ℕ) → i < length xs → x ≡ get_or xs i x
    → Appends (Spells IsText (take i xs)) first old → Appends (IsText x) old new → Appends (Spells IsText (take (i + 1) xs)) first new
one_more IsText xs i x first old new within is so_far made = (
  so_far.0 ++ made.0,
  subst (λ ys. Spells IsText ys (so_far.0 ++ made.0)) (ap (λ y. take i xs ++ y ∷ []) is ∙ sym (take_more xs i x within))
      (spelled_more IsText (take i xs) so_far.0 x made.0 so_far.1 made.1),
  made.2 ∙ ap (λ s. s ++ made.0) so_far.2 ∙ append_assoc first so_far.0 made.0,
)

-- one more, of which it is said where it stands
pub one_more_at : {A : Type 0} (IsText : A → List ℕ → Type 0) (xs : List A) (i : ℕ) (d : A) (first old new : List ℕ) → i < length xs
    → Appends (Spells IsText (take i xs)) first old → Appends (IsText (get_or xs i d)) old new → Appends (Spells IsText (take (i + 1) xs)) first new
one_more_at IsText xs i d first old new within so_far made = (
  so_far.0 ++ made.0,
  subst (λ ys. Spells IsText ys (so_far.0 ++ made.0)) (sym (take_more xs i d within))
      (spelled_more IsText (take i xs) so_far.0 (get_or xs i d) made.0 so_far.1 made.1),
  made.2 ∙ ap (λ s. s ++ made.0) so_far.2 ∙ append_assoc first so_far.0 made.0,
)
