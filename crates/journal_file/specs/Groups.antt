-- Groups of payloads that are written at once, each after a mark, and the list of payloads that a log has of them.
use Rattle.std.specs.Prelude.{◌≡◌, ℕ, ◌+◌, ◌==◌, ◌&&◌, Bool, true, false, not, List, [], ◌∷◌, ◌++◌, length, nat_lt, nat_le}
use Rattle.std.specs.List.{filter, list_all}
use Rattle.journal_file.specs.Sum.{sums_over}
use Rattle.journal_file.specs.Records.{Reads, extent}
use Rattle.journal_file.specs.Marks.{mark_of}
use Rattle.journal_file.specs.declared.record.TheConstants.{HEAD, MOST_TEXT}

-- a payload that is no mark: it doesn't begin as one, nor does any UTF-8 text
abbrev pub is_plain : List ℕ → Bool
is_plain [] = true
is_plain (byte ∷ bytes) = not (byte == 255)

-- a payload that a log accepts: at least one byte, at most `MOST_TEXT`, and no mark
abbrev pub is_taken : List ℕ → Bool
is_taken text = nat_lt 0 (length text) && nat_le (length text) MOST_TEXT && is_plain text

abbrev pub are_taken : List (List ℕ) → Bool
are_taken texts = list_all is_taken texts

-- the payloads of a group's records, where the group begins at this position of the file
abbrev pub group_of : ℕ → ℕ → List (List ℕ) → List (List ℕ)
group_of position synced texts = mark_of (position + HEAD) synced ∷ texts

-- a log's list, of the payloads that are read: those that are no marks
abbrev pub listed : List (List ℕ) → List (List ℕ)
listed texts = filter is_plain texts

-- A log that knows its file's length, the checksum there and how many payloads it has may hold this list: some payloads
-- take so many bytes, have this checksum and are listed so; and unless a write or a sync failed, the storage holds
-- bytes from which these payloads are read, to their end.
pub record MayBeOf (holds : List ℕ → Type 0) (is_broken : Bool) (position sum count : ℕ) (list : List (List ℕ)) : Type 0 where
  pub texts : List (List ℕ)
  pub are_listed : listed texts ≡ list
  pub summed : sum ≡ sums_over 0 texts
  pub ends : position ≡ extent texts
  pub counted : count ≡ length list
  pub held : is_broken ≡ false → (bytes : List ℕ) × holds bytes × Reads 0 bytes texts × (length bytes ≡ extent texts)
