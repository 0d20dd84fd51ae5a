-- How an input is split into lines, and a line into the parts of a request.
use Rattle.std.specs.Prelude.{ℕ, Bool, false, ◌&&◌, ◌==◌, List, [], ◌∷◌, length, drop, get_or, filter, nat_lt, if◌then◌else◌, ◌+◌, ◌-◌, ◌*◌, nat_le, fold, Option, Some, None}
use Rattle.std.specs.List.{list_all, before_first, after_first, onto_first}
use Rattle.std.specs.Char.{is_ascii_digit}
use Rattle.std.specs.Io.BufRead.{ends_with_byte, strip_last}
use Rattle.mds_text.specs.Fields.{last_moment}
use Rattle.mds_request.specs.Request.{Request, verb_of}

-- a line feed
abbrev pub is_feed : ℕ → Bool
is_feed byte = byte == 10

-- the next byte is a line feed
abbrev pub feeds : List ℕ → Bool
feeds [] = false
feeds (byte ∷ bytes) = byte == 10

-- The lines of the bytes. Each ends at a line feed (10), and a carriage return (13) right before it is dropped. Bytes
-- after the last line feed are a line too.
abbrev pub lines : List ℕ → List (List ℕ)
lines [] = []
lines (byte ∷ bytes) =
    if byte == 10 then [] ∷ lines bytes
    else (if (byte == 13) && feeds bytes then lines bytes else onto_first byte (lines bytes))

-- a line without its end: a line feed (10), and one carriage return (13) before it
abbrev pub without_end : List ℕ → List ℕ
without_end line = if ends_with_byte 10 line then strip_last 13 (strip_last 10 line) else line

-- whether there is a byte
abbrev pub is_filled : List ℕ → Bool
is_filled bytes = nat_lt 0 (length bytes)

-- the first line of an input is its configuration; for an input without bytes it is empty
abbrev pub configuration_of : List ℕ → List ℕ
configuration_of input = get_or (lines input) 0 []

-- the lines that are answered: those after the first that aren't empty
abbrev pub asked_of : List ℕ → List (List ℕ)
asked_of input = filter is_filled (drop 1 (lines input))

abbrev pub is_space : ℕ → Bool
is_space byte = byte == 32

-- the bytes before the first space, or all of them
abbrev pub word_of : List ℕ → List ℕ
word_of bytes = before_first is_space bytes

-- the bytes after the first space, or none
abbrev pub behind_word : List ℕ → List ℕ
behind_word bytes = after_first is_space bytes

abbrev pub are_digits : List ℕ → Bool
are_digits bytes = list_all is_ascii_digit bytes

-- the number written in decimal digits
abbrev pub decimal : List ℕ → ℕ
decimal digits = fold (λ n digit. 10 * n + (digit - 48)) 0 digits

-- 1 to 13 digits of a moment
abbrev pub is_moment : List ℕ → Bool
is_moment digits =
    nat_le 1 (length digits) && nat_le (length digits) 13 && are_digits digits && nat_le (decimal digits) last_moment

-- the moment that they write
abbrev pub moment_of : List ℕ → Option ℕ
moment_of digits = if is_moment digits then Some (decimal digits) else None

-- the request of these words, or none where one of the first four is empty or the first is no moment
unfoldable pub request_from : List ℕ → List ℕ → List ℕ → List ℕ → List ℕ → Option Request
request_from at token method target body =
    if is_filled token && is_filled method && is_filled target && is_moment at
    then Some (record { at = decimal at; token = token; verb = verb_of method; target = target; body = body })
    else None

-- The request on a line. It is split at its first four spaces, and the rest is the body. A word that is missing is
-- empty.
abbrev pub request_on : List ℕ → Option Request
request_on line =
    let behind_at = behind_word line in
    let behind_token = behind_word behind_at in
    let behind_method = behind_word behind_token in
    request_from (word_of line) (word_of behind_at) (word_of behind_token) (word_of behind_method) (behind_word behind_method)
