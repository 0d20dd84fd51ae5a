-- The history of what is published, which exists only in proofs: the invariant of its book, and the effect of its one
-- step, which appends a publication.
use Rattle.std.specs.Prelude.{ℕ, ◌≡◌, ◌==◌, true, List, [], ◌∷◌, ◌++◌, length, MatchBool}
use Rattle.logbook.specs.Pages.{Cell, Step, View, Book, Named}
use Rattle.mds_catalog.specs.Publication.{Publication}

-- the first word is the length of the history; the second stays 0
pub record IsKept (cells : List Cell) (log : List Publication) : Type 0 where
  pub words : cells ≡ (length log, true) ∷ (0, true) ∷ []

-- the word of a book that holds the length of its history
abbrev pub head_of : Book → Named
head_of b = record { tracked = true; key = 0; book = b }

-- the publication was appended to all that had been seen; or the history was longer, and was then seen
abbrev pub Adds : Step Publication → View Publication ℕ → ℕ → View Publication ℕ → Type 0
Adds s v found w = MatchBool (found == s.old) (w.0 ≡ v.0 ++ s.ask ∷ []) (length w.0 ≡ found)
