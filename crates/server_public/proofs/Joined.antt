-- Texts joined by commas.
use Rattle.std.proofs.Common.{◌≡◌, ℕ, List, [], ◌∷◌, ◌++◌, ap, sym}
use Rattle.std.specs.List.{flat_map, join_with_byte}
use Rattle.std.proofs.lemmas.List.{append-nil}

-- the first text, then a comma before each of the others
pub joined_bytes : (x : List ℕ) (xs : List (List ℕ)) → join_with_byte 44 (x ∷ xs) ≡ x ++ flat_map (λ t. 44 ∷ t) xs
joined_bytes x [] = sym (append-nil x)
joined_bytes x (y ∷ ys) = ap (λ rest. x ++ 44 ∷ rest) (joined_bytes y ys)
