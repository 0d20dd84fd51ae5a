-- Which versions of a response the client accepts (MDS 2.0, general information: versioning; RFC 9110, section 12.5.1).
use Rattle.std.specs.Prelude.{ℕ, ◌==◌, ◌&&◌, ◌||◌, List, take, drop, length, ◌-◌, Bool, true, not, bytes_eq, codes, position, Option, Some, None}
use Rattle.std.specs.Char.{is_ascii_whitespace}
use Rattle.std.specs.List.{list_all, list_any, prefix_len, suffix_len, slice_split}
use Rattle.std.specs.Str.{str_eq_ignore_ascii_case}
use Rattle.http_header.specs.FieldValue.{FieldValue}
use Rattle.http_header.specs.HeaderMap.{Entries, get_all}

abbrev pub is_comma : ℕ → Bool
is_comma b = b == 44

abbrev pub is_semicolon : ℕ → Bool
is_semicolon b = b == 59

-- without the white space at its end
abbrev pub end_trimmed : List ℕ → List ℕ
end_trimmed bytes = take (length bytes - suffix_len is_ascii_whitespace bytes) bytes

-- without the white space around it
abbrev pub trimmed : List ℕ → List ℕ
trimmed bytes = end_trimmed (drop (prefix_len is_ascii_whitespace bytes) bytes)

-- a media type that accepts any version
abbrev pub is_any_version : List ℕ → Bool
is_any_version type =
    str_eq_ignore_ascii_case type (codes "*/*") || str_eq_ignore_ascii_case type (codes "application/*")
    || str_eq_ignore_ascii_case type (codes "application/json")

-- a parameter that doesn't name another version than 2.0
abbrev pub is_this_version : List ℕ → Bool
is_this_version parameter =
    not (str_eq_ignore_ascii_case (take 8 parameter) (codes "version=")) || bytes_eq (drop 8 parameter) (codes "2.0")

-- the bytes before a position, or all
abbrev pub until : Option ℕ → List ℕ → List ℕ
until None bytes = bytes
until (Some at) bytes = take at bytes

-- the type of a media range: the bytes before its first `;`
abbrev pub type_of : List ℕ → List ℕ
type_of range = trimmed (until (position is_semicolon range) range)

-- no parameter of a media range names another version
abbrev pub has_this_version : List ℕ → Bool
has_this_version range = list_all (λ p. is_this_version (trimmed p)) (slice_split is_semicolon range)

-- a media range accepts the response: its type is one of any version, or MDS's own without another version
abbrev pub takes : List ℕ → Bool
takes range =
    is_any_version (type_of range)
    || (str_eq_ignore_ascii_case (type_of range) (codes "application/vnd.mds+json") && has_this_version range)

-- a line of `accept` has such a range
abbrev pub line_takes : List ℕ → Bool
line_takes line = list_any takes (slice_split is_comma line)

-- the client accepts the response: by one line of `accept`, or has none
abbrev pub is_accepted : Entries FieldValue → Bool
is_accepted headers =
    (length (get_all headers (codes "accept")) == 0) || list_any (λ line. line_takes line.bytes) (get_all headers (codes "accept"))
