-- How a file ends after its whole records, and with which endings a journal is opened.
use Rattle.std.specs.Prelude.{◌≡◌, ℕ, ◌+◌, ◌==◌, ◌&&◌, Bool, true, false, List, [], ◌∷◌, length, take, nat_lt, nat_le, if◌then◌else◌, Option, Some, None}
use Rattle.std.specs.List.{starts_with, list_all}
use Rattle.std.specs.Int.{w32, from_be_bytes}
use Rattle.journal_file.specs.Marks.{furthest_said, first_moved}
use Rattle.journal_file.specs.declared.record.TheConstants.{HEAD, MOST_TEXT}
use Rattle.journal_file.specs.declared.signature.Signature.{Signature}
use Rattle.journal_file.specs.declared.signature.Signature.TheVariants.{Gzip, ByteOrderMark, Zeros, Records, Text, Unknown}
use Rattle.journal_file.specs.declared.ending.JournalEnding.{JournalEnding}
use Rattle.journal_file.specs.declared.ending.JournalEnding.TheVariants.{Whole, Torn, Unexplained, Foreign, Moved, Damaged}
use Rattle.journal_file.specs.declared.ending.CutTail.{CutTail}

-- the bytes begin with these
abbrev pub begins_with : List ℕ → List ℕ → Bool
begins_with bytes front = starts_with (λ a b. a == b) bytes front

abbrev pub is_some : Option ℕ → Bool
is_some None = false
is_some (Some n) = true

-- a byte of ASCII text: a tab or other whitespace control, or a printable character
abbrev pub is_written : ℕ → Bool
is_written byte = if nat_lt byte 32 then nat_le 9 byte && nat_le byte 13 else nat_lt byte 127

-- a byte order mark of UTF-8, or of UTF-16 in either order
abbrev pub is_ordered : List ℕ → Bool
is_ordered bytes =
    if begins_with bytes (239 ∷ 187 ∷ 191 ∷ []) then true
    else if begins_with bytes (254 ∷ 255 ∷ []) then true else begins_with bytes (255 ∷ 254 ∷ [])

-- what stands where a journal's records would begin: the first of these that it is; a text is recognized by its first
-- 16 bytes
abbrev pub signature_of : List ℕ → Signature
signature_of bytes =
    if begins_with bytes (31 ∷ 139 ∷ []) then Gzip
    else if is_ordered bytes then ByteOrderMark
    else if list_all (λ byte. byte == 0) bytes then Zeros
    else if is_some (furthest_said bytes) then Records
    else if list_all is_written (take 16 bytes) then Text else Unknown

-- the bytes with which every journal begins: the record of its first group's mark
abbrev pub beginning : List ℕ
beginning =
    0 ∷ 0 ∷ 0 ∷ 32 ∷ 130 ∷ 165 ∷ 51 ∷ 246 ∷ 22 ∷ 181 ∷ 93 ∷ 151
    ∷ 255 ∷ 115 ∷ 121 ∷ 110 ∷ 99 ∷ 101 ∷ 100 ∷ 58 ∷ 0 ∷ 0 ∷ 0 ∷ 0 ∷ 0 ∷ 0 ∷ 0 ∷ 12
    ∷ 0 ∷ 0 ∷ 0 ∷ 0 ∷ 0 ∷ 0 ∷ 0 ∷ 0 ∷ 152 ∷ 3 ∷ 180 ∷ 189 ∷ 217 ∷ 174 ∷ 131 ∷ 34 ∷ []

-- a record with a payload of this size would have more bytes than these
abbrev pub is_short_of : ℕ → List ℕ → Bool
is_short_of size bytes = nat_lt 0 size && nat_le size MOST_TEXT && nat_lt (length bytes) (HEAD + size)

-- The beginning of one record whose end is missing: fewer bytes than its header says. Where there are fewer than the
-- four bytes of a length, the first is 0, as it is in each record.
unfoldable pub is_torn_record : List ℕ → Bool
is_torn_record bytes =
    if nat_lt (length bytes) 4 then begins_with bytes (0 ∷ []) else is_short_of (from_be_bytes w32 (take 4 bytes)) bytes

-- after more than the record of the first mark, bytes that nothing explains are `Unexplained`; else the file isn't
-- known to be a journal
abbrev pub unexplained : ℕ → List ℕ → JournalEnding
unexplained whole behind = if nat_lt (length beginning) whole then Unexplained else Foreign (signature_of behind)

-- the ending by the marks: the furthest synced position that they give, and the first that was moved
abbrev pub ending_by : ℕ → List ℕ → Option ℕ → Option ℕ → JournalEnding
ending_by whole behind None moved = if is_torn_record behind then Torn else unexplained whole behind
ending_by whole behind (Some said) None = if nat_lt whole said then Damaged said else unexplained whole behind
ending_by whole behind (Some said) (Some place) = if nat_lt whole said then Damaged said else Moved place

-- how a file of these bytes ends, which has no whole record: it is a journal only where they are a prefix of a
-- journal's beginning
abbrev pub without_records : List ℕ → JournalEnding
without_records bytes = if begins_with beginning bytes then Torn else Foreign (signature_of bytes)

-- how a file ends whose whole records end at this position, with these bytes after them
abbrev pub ending_of : ℕ → List ℕ → JournalEnding
ending_of whole [] = Whole
ending_of whole (byte ∷ bytes) =
    if whole == 0 then without_records (byte ∷ bytes)
    else ending_by whole (byte ∷ bytes) (furthest_said (byte ∷ bytes)) (first_moved whole (byte ∷ bytes))

-- The file is a journal and no synced data is known to be lost: so it is opened, and the bytes after the whole records
-- are cut.
abbrev pub is_opened : JournalEnding → Bool
is_opened Whole = true
is_opened Torn = true
is_opened Unexplained = true
is_opened (Foreign signature) = false
is_opened (Moved place) = false
is_opened (Damaged said) = false

-- what is reported of the bytes from this position on: nothing, where there are none; else that they were cut, and are
-- saved
abbrev pub IsCut : (ℕ → List ℕ → Type 0) → Option CutTail → ℕ → List ℕ → Type 0
IsCut has_kept None from behind = behind ≡ []
IsCut has_kept (Some cut) from behind = (cut.from ≡ from) × (cut.count ≡ length behind) × has_kept from behind
