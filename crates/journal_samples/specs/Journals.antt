-- Several journals, as archives of a city and its state folder: which of them tells what stood at a moment. Each begins at
-- the city's beginning, and a later one goes further but may have left out what an earlier one has. So it is the first one
-- with an entry later than the moment, or else the last one.
use Rattle.std.specs.Prelude.{ℕ, ◌+◌, Bool, false, List, [], ◌∷◌, nat_lt, if◌then◌else◌, Option, Some, None}

-- whether a journal whose latest entry is of this moment has one that is later than another moment
abbrev pub is_covered : Option ℕ → ℕ → Bool
is_covered None t = false
is_covered (Some last) t = nat_lt t last

-- how many moments, from the first one on, it tells of
abbrev pub covered : Option ℕ → List ℕ → ℕ
covered last [] = 0
covered last (t ∷ moments) = if is_covered last t then covered last moments + 1 else 0
