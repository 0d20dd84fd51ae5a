-- Entity tags, and the condition that names them.
use Rattle.std.specs.Prelude.{ℕ, List, ◌++◌, Bool, ◌||◌, ◌-◌, ◌==◌, bytes_eq, codes, take, drop, length, if◌then◌else◌}
use Rattle.std.specs.List.{list_any, prefix_len, suffix_len, slice_split}
use Rattle.std.specs.Char.{is_ascii_whitespace}
use Rattle.http_header.specs.FieldValue.{FieldValue}
use Rattle.http_header.specs.HeaderMap.{Entries, get_all}
use Rattle.sha2.specs.Sha256.{sha256}
use Rattle.hex.specs.Hex.{encode_lower}

-- the strong entity tag of some bytes (RFC 9110, section 8.8.3): their SHA-256 in quotes
abbrev pub tag_of : List ℕ → List ℕ
tag_of bytes = codes "\"" ++ encode_lower (sha256 bytes) ++ codes "\""

abbrev pub is_comma : ℕ → Bool
is_comma b = b == 44

-- without the white space at its end
abbrev pub end_trimmed : List ℕ → List ℕ
end_trimmed bytes = take (length bytes - suffix_len is_ascii_whitespace bytes) bytes

-- without the white space around it
abbrev pub trimmed : List ℕ → List ℕ
trimmed bytes = end_trimmed (drop (prefix_len is_ascii_whitespace bytes) bytes)

-- a tag without the prefix of a weak one, which the comparison leaves out (RFC 9110, section 8.8.3.2)
abbrev pub opaque : List ℕ → List ℕ
opaque tag = if bytes_eq (take 2 tag) (codes "W/") then drop 2 tag else tag

-- a member of a list is the tag
abbrev pub is_member : List ℕ → List ℕ → Bool
is_member tag member = bytes_eq (opaque (trimmed member)) tag

-- A line of `if-none-match` names a tag: it is `*`, or a list with the tag (RFC 9110, sections 13.1.2 and 5.6.1). The
-- tags of the page have no comma, so that a list may be split at each one.
abbrev pub is_named : List ℕ → List ℕ → Bool
is_named tag line = bytes_eq (trimmed line) (codes "*") || list_any (is_member tag) (slice_split is_comma line)

-- one of a head's lines names it
abbrev pub is_named_in : Entries FieldValue → List ℕ → Bool
is_named_in headers tag = list_any (λ line. is_named tag line.bytes) (get_all headers (codes "if-none-match"))
