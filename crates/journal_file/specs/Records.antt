-- The layout of records in a file: one after another, each with the length of its payload and a checksum over it and
-- all payloads before it.
use Rattle.std.specs.Prelude.{◌≡◌, ℕ, ◌+◌, ◌<◌, ◌≤◌, ◌==◌, ◌&&◌, List, [], ◌∷◌, ◌++◌, length, take, drop, nat_lt, nat_le, if◌then◌else◌, Option, Some, None}
use Rattle.std.specs.Int.{w32, w64, to_be_bytes, from_be_bytes}
use Rattle.journal_file.specs.Sum.{sum_over}
use Rattle.journal_file.specs.declared.record.TheConstants.{HEAD, MOST_TEXT}

-- a payload that can have a record: at least one byte, so that zeros are no record, and at most `MOST_TEXT`
pub record Fits (text : List ℕ) : Type 0 where
  pub filled : 0 < length text
  pub short : length text ≤ MOST_TEXT

-- a record: the payload's length in four bytes and its checksum in eight, both big-endian, and the payload
unfoldable pub record_of : ℕ → List ℕ → List ℕ
record_of before text = to_be_bytes w32 (length text) ++ to_be_bytes w64 (sum_over before text) ++ text

-- the records of these payloads, after data with the checksum `before`
abbrev pub written : ℕ → List (List ℕ) → List ℕ
written before [] = []
written before (text ∷ texts) = record_of before text ++ written (sum_over before text) texts

-- how many bytes the records of these payloads take
abbrev pub extent : List (List ℕ) → ℕ
extent [] = 0
extent (text ∷ texts) = HEAD + length text + extent texts

-- where each payload begins, where the first record begins at `start`
abbrev pub offsets_from : ℕ → List (List ℕ) → List ℕ
offsets_from start [] = []
offsets_from start (text ∷ texts) = (start + HEAD) ∷ offsets_from (start + HEAD + length text) texts

-- the payload with this length and this checksum at the start, if there is one, and the bytes after it
unfoldable pub text_at : ℕ → ℕ → ℕ → List ℕ → Option (List ℕ × List ℕ)
text_at before size claimed bytes =
    if nat_lt 0 size && nat_le size MOST_TEXT && nat_le size (length bytes) && (sum_over before (take size bytes) == claimed)
    then Some (take size bytes, drop size bytes) else None

-- the payload of the whole record at the start, if there is one, and the bytes after it
unfoldable pub first_at : ℕ → List ℕ → Option (List ℕ × List ℕ)
first_at before bytes =
    if nat_lt (length bytes) HEAD then None
    else text_at before (from_be_bytes w32 (take 4 bytes)) (from_be_bytes w64 (take 8 (drop 4 bytes))) (drop 8 (drop 4 bytes))

-- These payloads are read from the bytes: those of the records at the start, up to the first place where no whole
-- record stands.
abbrev pub Reads : ℕ → List ℕ → List (List ℕ) → Type 0
Reads before bytes [] = first_at before bytes ≡ None
Reads before bytes (text ∷ texts) =
    (behind : List ℕ) × (first_at before bytes ≡ Some (text, behind)) × Reads (sum_over before text) behind texts
