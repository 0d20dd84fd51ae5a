-- The program's arguments: its words, and a number of connections as one of them.
use Rattle.std.specs.Prelude.{ℕ, ◌==◌, List, [], ◌∷◌, Option, Some, None, Bool, false, ◌&&◌, length, nat_lt, nat_le, bytes_eq, codes, if◌then◌else◌}
use Rattle.std.specs.List.{list_all}
use Rattle.std.specs.Char.{is_ascii_digit}
use Rattle.std.specs.Str.Parse.{digits_value}
use Rattle.server_start.specs.declared.command.ServeCommand.{ServeCommand}
use Rattle.server_start.specs.declared.command.ServeCommand.TheVariants.{Help, Version, Serve}

abbrev pub are_digits : List ℕ → Bool
are_digits bytes = list_all is_ascii_digit bytes

-- one to nine decimal digits
abbrev pub is_count : List ℕ → Bool
is_count word = nat_lt 0 (length word) && nat_le (length word) 9 && are_digits word

-- the number of connections that a word names
abbrev pub count_in : List ℕ → Option ℕ
count_in word = if is_count word then Some (digits_value 10 word) else None

-- what the arguments ask for
pub data Request : Type 0 where
  help : Request
  version : Request
  serve : (address : List ℕ) → (connections : Option ℕ) → Request

-- it begins with `-`
abbrev pub is_flag : List ℕ → Bool
is_flag [] = false
is_flag (byte ∷ bytes) = byte == 45

-- to serve at an address, which is no flag
abbrev pub serve_at : List ℕ → Option ℕ → Option Request
serve_at address connections = if is_flag address then None else Some (serve address connections)

-- what one word asks for
abbrev pub asked_alone : List ℕ → Option Request
asked_alone word =
    if bytes_eq word (codes "--help") then Some help
    else (if bytes_eq word (codes "--version") then Some version else serve_at word None)

-- to serve so many connections, where these are a number
abbrev pub asked_counted : List ℕ → Option ℕ → Option Request
asked_counted address None = None
asked_counted address (Some connections) = serve_at address (Some connections)

-- what the words after the program's name ask for
abbrev pub asked_by : List (List ℕ) → Option Request
asked_by (word ∷ []) = asked_alone word
asked_by (address ∷ count ∷ []) = asked_counted address (count_in count)
asked_by words = None

abbrev pub asked_view : ServeCommand → Request
asked_view Help = help
asked_view Version = version
asked_view (Serve address connections) = serve address.now connections
