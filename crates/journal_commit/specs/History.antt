-- The history of what is appended to a log and of what of it is synced. It exists in proofs alone: the rule of its
-- book, whose atomic words count how many payloads were appended and how many of these are synced, and what each step
-- shows.
use Rattle.std.specs.Prelude.{◌≡◌, ◌==◌, ℕ, ◌≤◌, true, List, [], ◌∷◌, ◌++◌, length, take, MatchBool, ⊤}
use Rattle.logbook.specs.Pages.{Cell, Step, View, Book, Named}

-- the word of a book that counts what was appended
abbrev pub appended_of : Book → Named
appended_of b = record { tracked = true; key = 0; book = b }

-- the word of a book that counts what is synced
abbrev pub synced_of : Book → Named
synced_of b = record { tracked = true; key = 1; book = b }

-- the payload was appended to all that had been seen; or the history was longer, and was seen
abbrev pub Adds : Step (List ℕ) → View (List ℕ) ℕ → ℕ → View (List ℕ) ℕ → Type 0
Adds s v found w = MatchBool (found == s.old) (w.0 ≡ v.0 ++ s.ask ∷ []) (length w.0 ≡ found)

-- all that was appended is seen, and its count found
abbrev pub Stamps : Step (List ℕ) → View (List ℕ) ℕ → ℕ → View (List ℕ) ℕ → Type 0
Stamps s v found w = length w.0 ≡ found

-- the step shows nothing
abbrev pub Raises : Step (List ℕ) → View (List ℕ) ℕ → ℕ → View (List ℕ) ℕ → Type 0
Raises s v found w = ⊤

module _ {L : Type 0} (may_be : L → List (List ℕ) → Type 0) (is_synced : L → Type 0) where
  -- The payloads are synced: a log that is synced may hold a list that ends with them. What it had before them was
  -- there from the beginning.
  abbrev pub AreSynced : List (List ℕ) → Type 0
  AreSynced texts = (log : L) × (first : List (List ℕ)) × is_synced log × may_be log (first ++ texts)

  -- the first word counts the payloads that were appended; the second, how many of these, from the first on, are synced
  pub record IsKept (cells : List Cell) (log : List (List ℕ)) : Type 0 where
    pub synced : ℕ
    pub words : cells ≡ (length log, true) ∷ (synced, true) ∷ []
    pub within : synced ≤ length log
    pub are_synced : AreSynced (take synced log)

  -- as many payloads as the count that is found are synced
  abbrev pub Finds : Step (List ℕ) → View (List ℕ) ℕ → ℕ → View (List ℕ) ℕ → Type 0
  Finds s v found w = (found ≤ length w.0) × AreSynced (take found w.0)
