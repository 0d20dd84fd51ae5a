-- Lines are written one after another.
use Rattle.std.proofs.Common.{◌≡◌, ℕ, ◌+◌, ◌<◌, ◌≤◌, List, ◌++◌, length, drop, get_or, refl, sym, ap, ◌∙◌, append_assoc}
use Rattle.std.specs.List.{flat_map}
use Rattle.std.proofs.lemmas.List.{append-nil, drop_all, drop_more}

module _ {A : Type 0} (line : A → List ℕ) where
  -- one more line is written, and the others are still to be
  pub told_next : (items : List A) (i : ℕ) (item : A) (so_far now all : List ℕ) → i < length items → item ≡ get_or items i item → now ≡ so_far ++ line item
      → so_far ++ flat_map line (drop i items) ≡ all → now ++ flat_map line (drop (i + 1) items) ≡ all
  told_next items i item so_far now all within here more is =
      let rest = flat_map line (drop (i + 1) items) in
      let first : flat_map line (drop i items) ≡ line item ++ rest =
      ap (flat_map line) (drop_more items i item within) ∙ ap (λ a. line a ++ rest) (sym here) in
      ap (λ xs. xs ++ rest) more ∙ append_assoc so_far (line item) rest ∙ ap (λ xs. so_far ++ xs) (sym first) ∙ is

  -- all are written
  pub told_over : (items : List A) (i : ℕ) (so_far all : List ℕ) → length items ≤ i → so_far ++ flat_map line (drop i items) ≡ all → so_far ≡ all
  told_over items i so_far all over is =
      sym (append-nil so_far) ∙ ap (λ xs. so_far ++ flat_map line xs) (sym (drop_all i items over)) ∙ is

-- the pieces of a line, appended to a text one after another
pub pieces : (text a b c d e : List ℕ) → ((((text ++ a) ++ b) ++ c) ++ d) ++ e ≡ text ++ ((((a ++ b) ++ c) ++ d) ++ e)
pieces text a b c d e = simp append_assoc refl
