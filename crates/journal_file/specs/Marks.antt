-- A mark is a payload that says how far the file was synced before the group of records that it begins was written. It
-- is recognized by itself, wherever it stands and whatever stands before it, since it begins with a magic word, says
-- where it was written, and has a checksum of its own.
use Rattle.std.specs.Prelude.{ℕ, ◌+◌, ◌==◌, ◌&&◌, Bool, false, not, List, [], ◌∷◌, ◌++◌, length, take, drop, max, nat_lt, bytes_eq, codes, if◌then◌else◌, Option, Some, None}
use Rattle.std.specs.Int.{w64, to_be_bytes, from_be_bytes}
use Rattle.journal_file.specs.Sum.{sum_over}
use Rattle.journal_file.specs.declared.marks.TheConstants.{MARK}

-- a mark's magic word, of eight bytes; its first byte occurs in no UTF-8 text
abbrev pub mark_word : List ℕ
mark_word = 255 ∷ codes "synced:"

-- the magic word, the position of the mark, and the position up to which the file was synced
unfoldable pub mark_head : ℕ → ℕ → List ℕ
mark_head position synced = mark_word ++ to_be_bytes w64 position ++ to_be_bytes w64 synced

-- the mark that stands at a position of the file, and says so
abbrev pub mark_of : ℕ → ℕ → List ℕ
mark_of position synced = mark_head position synced ++ to_be_bytes w64 (sum_over 0 (mark_head position synced))

-- what a mark with these first 24 bytes, `head`, and this checksum, `claimed`, says: for which position it was written,
-- and how far the file was synced then
unfoldable pub claim_by : List ℕ → ℕ → Option (ℕ × ℕ)
claim_by head claimed =
    if bytes_eq (take 8 head) mark_word && (claimed == sum_over 0 head)
    then Some (from_be_bytes w64 (take 8 (drop 8 head)), from_be_bytes w64 (drop 8 (drop 8 head))) else None

-- what the mark at the start of these bytes says, wherever they stand; none without a mark there
unfoldable pub claim_at : List ℕ → Option (ℕ × ℕ)
claim_at bytes =
    if nat_lt (length bytes) MARK then None
    else claim_by (take 24 bytes) (from_be_bytes w64 (take 8 (drop 24 bytes)))

-- how far a mark says that the file was synced
abbrev pub said_by : Option (ℕ × ℕ) → Option ℕ
said_by None = None
said_by (Some claim) = Some claim.1

-- a mark stands at this position that was written for another
abbrev pub is_moved : ℕ → Option (ℕ × ℕ) → Bool
is_moved position None = false
is_moved position (Some claim) = not (claim.0 == position)

abbrev pub further : Option ℕ → Option ℕ → Option ℕ
further None other = other
further (Some said) None = Some said
further (Some said) (Some other) = Some (max said other)

-- the furthest synced position that any mark among these bytes gives, wherever it stands; none without a mark
abbrev pub furthest_said : List ℕ → Option ℕ
furthest_said [] = None
furthest_said (byte ∷ bytes) = further (said_by (claim_at (byte ∷ bytes))) (furthest_said bytes)

-- the first position among these bytes, which stand at `position`, with a mark that was written for another
abbrev pub first_moved : ℕ → List ℕ → Option ℕ
first_moved position [] = None
first_moved position (byte ∷ bytes) =
    if is_moved position (claim_at (byte ∷ bytes)) then Some position else first_moved (position + 1) bytes
