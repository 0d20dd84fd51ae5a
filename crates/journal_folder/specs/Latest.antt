-- The latest moment of a journal's entries. Where the machine's clock went back it isn't the last entry's.
use Rattle.std.specs.Prelude.{◌≡◌, ℕ, max, List, [], ◌∷◌, length, drop, map, Option, Some, None}
use Rattle.journal_entry.specs.Entries.{Entry, entry_text}
use Rattle.journal_file.specs.Groups.{listed}
use Rattle.journal_file.specs.Records.{Reads, extent}

-- the later one of two moments, where there may be none yet
abbrev pub later_of : Option ℕ → ℕ → Option ℕ
later_of None t = Some t
later_of (Some last) t = Some (max last t)

abbrev pub latest_from : Option ℕ → List Entry → Option ℕ
latest_from last [] = last
latest_from last (e ∷ entries) = latest_from (later_of last e.at) entries

-- none without entries
abbrev pub latest : List Entry → Option ℕ
latest entries = latest_from None entries

-- behind the first of these payloads, the head, stand entries with this latest moment
abbrev pub IsLatestOf : List (List ℕ) → Option ℕ → Type 0
IsLatestOf texts at = (entries : List Entry) × (drop 1 texts ≡ map entry_text entries) × (at ≡ latest entries)

-- the bytes are whole records to their end, those of a journal whose entries have this latest moment
abbrev pub IsLatest : List ℕ → Option ℕ → Type 0
IsLatest bytes at = (all : List (List ℕ)) × Reads 0 bytes all × (extent all ≡ length bytes) × IsLatestOf (listed all) at
