-- A compacted log that may take another's place.
use Rattle.std.specs.Prelude.{ℕ, List, [], ◌∷◌, ◌++◌}
use Rattle.std.specs.Coded.{Coded, coded_ℕ, coded_list}
use Rattle.journal_file.specs.LogEnds.{IsSealed}
use Rattle.journal_file.specs.declared.log_end.LogEnd.{LogEnd}

-- The log may hold a list that begins with one that was found equivalent to another; that other, followed by the same
-- rest, has the log end.
pub record IsShorter (same : List (List ℕ) → List (List ℕ) → Type 0) (may_be : List (List ℕ) → Type 0) (seal : LogEnd) : Type 0 where
  pub front : List (List ℕ)
  pub before : List (List ℕ)
  pub rest : List (List ℕ)
  pub may : may_be (front ++ rest)
  pub found : same front before
  pub sealed : IsSealed seal (before ++ rest)

-- a log end's numbers, as which contracts see a compacted log
abbrev pub numbers_of : LogEnd → List ℕ
numbers_of seal = seal.position ∷ seal.sum ∷ seal.count ∷ []

abbrev pub coded_numbers : Coded (List ℕ)
coded_numbers = coded_list coded_ℕ
