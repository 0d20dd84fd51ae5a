-- The text that is read as JSON: each number that isn't plain is put in quotation marks, so that none of its digits is
-- lost.
use Rattle.std.specs.Prelude.{ℕ, zero, suc, ◌+◌, ◌==◌, ◌||◌, not, Bool, false, if◌then◌else◌, List, [], ◌∷◌, ◌++◌, take, count_by, Option, Some, None}
use Rattle.std.specs.Char.{is_ascii_digit}
use Rattle.std.specs.List.{flat_map, prefix_len}
use Rattle.mds_text.specs.Numbers.{Parts, number_of, is_plain}

-- the length of a string after its opening quotation mark, the closing one included (RFC 8259, section 7); a backslash
-- takes the byte after it along, and a string that isn't closed goes to the end of the text
abbrev pub string_len : List ℕ → ℕ
string_len [] = 0
string_len (a ∷ []) = 1
string_len (a ∷ b ∷ s) = if a == 34 then 1 else if a == 92 then 2 + string_len s else 1 + string_len (b ∷ s)

-- a token begins with a minus or a digit, and goes on over digits and `+`, `-`, `.`, `e` and `E`
abbrev pub begins_token : ℕ → Bool
begins_token b = (b == 45) || is_ascii_digit b

abbrev pub continues_token : ℕ → Bool
continues_token b = is_ascii_digit b || (b == 43) || (b == 45) || (b == 46) || (b == 101) || (b == 69)

-- how many bytes, after the first one, belong to the piece that it begins: a string is a piece, a token is one, and so
-- is any other single byte
abbrev pub piece_tail : ℕ → List ℕ → ℕ
piece_tail b s = if b == 34 then string_len s else if begins_token b then prefix_len continues_token s else 0

-- the pieces of a text after `passed` bytes, which belong to the piece before
unfoldable pub pieces_behind : ℕ → List ℕ → List (List ℕ)
pieces_behind passed [] = []
pieces_behind zero (b ∷ s) = (b ∷ take (piece_tail b s) s) ∷ pieces_behind (piece_tail b s) s
pieces_behind (suc passed) (b ∷ s) = pieces_behind passed s

abbrev pub pieces : List ℕ → List (List ℕ)
pieces s = pieces_behind 0 s

-- a number that isn't plain
abbrev pub is_decimal : Option Parts → Bool
is_decimal None = false
is_decimal (Some n) = not (is_plain n)

-- whether a piece is quoted: it is a number that isn't plain; a string never is, and a token that is no number stays as
-- it is
abbrev pub is_quoted : List ℕ → Bool
is_quoted piece = is_decimal (number_of piece)

abbrev pub shown : List ℕ → List ℕ
shown piece = if is_quoted piece then 34 ∷ piece ++ 34 ∷ [] else piece

-- the text with its numbers that aren't plain quoted, and how many were quoted
abbrev pub quoted_text : List ℕ → List ℕ
quoted_text s = flat_map shown (pieces s)

abbrev pub quoted_count : List ℕ → ℕ
quoted_count s = count_by is_quoted (pieces s)
