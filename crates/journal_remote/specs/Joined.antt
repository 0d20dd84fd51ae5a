-- Chunks that stand one behind another.
use Rattle.std.specs.Prelude.{◌≡◌, ℕ, ◌+◌, zero, suc, List, [], ◌++◌, Option, Some}

-- The first so many chunks all stand, and these are their bytes, one behind another.
abbrev pub Joins : (ℕ → Option (List ℕ)) → ℕ → List ℕ → Type 0
Joins chunk zero bytes = bytes ≡ []
Joins chunk (suc n) bytes =
    (front : List ℕ) × (last : List ℕ) × Joins chunk n front × (chunk n ≡ Some last) × (bytes ≡ front ++ last)

-- the same of so many chunks from an index on
abbrev pub JoinsFrom : (ℕ → Option (List ℕ)) → ℕ → ℕ → List ℕ → Type 0
JoinsFrom chunk from n bytes = Joins (λ i. chunk (from + i)) n bytes
