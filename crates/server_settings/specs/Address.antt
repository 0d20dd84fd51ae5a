-- Addresses of map tiles, and their origins.
use Rattle.std.specs.Prelude.{
  ℕ,
  suc,
  ◌-◌,
  ◌==◌,
  ◌&&◌,
  ◌||◌,
  not,
  nat_le,
  Bool,
  false,
  if◌then◌else◌,
  List,
  [],
  ◌∷◌,
  length,
  take,
  drop,
  bytes_eq,
  codes,
  Option,
  Some,
  None,
  option_and_then,
}
use Rattle.std.specs.Char.{is_ascii_digit, is_ascii_alphanumeric}
use Rattle.std.specs.List.{list_all, prefix_len}

-- a text begins with a word
abbrev pub begins_with : List ℕ → List ℕ → Bool
begins_with word text = bytes_eq (take (length word) text) word

-- what follows the word that a text begins with
abbrev pub behind : List ℕ → List ℕ → Option (List ℕ)
behind word text = if begins_with word text then Some (drop (length word) text) else None

-- scheme (RFC 9110, section 4.2)
abbrev pub behind_scheme : List ℕ → Option (List ℕ)
behind_scheme address =
    if begins_with (codes "https://") address then behind (codes "https://") address
    else behind (codes "http://") address

-- a letter, a digit, `-` or `.`
abbrev pub is_host_byte : ℕ → Bool
is_host_byte b = is_ascii_alphanumeric b || b == 45 || b == 46

-- one such byte or more
abbrev pub behind_host : List ℕ → Option (List ℕ)
behind_host text = if prefix_len is_host_byte text == 0 then None else Some (drop (prefix_len is_host_byte text) text)

-- one to five digits
abbrev pub behind_digits : List ℕ → Option (List ℕ)
behind_digits text =
    if nat_le 1 (prefix_len is_ascii_digit text) && nat_le (prefix_len is_ascii_digit text) 5
    then Some (drop (prefix_len is_ascii_digit text) text) else None

-- a port, where there is a colon
abbrev pub behind_port : List ℕ → Option (List ℕ)
behind_port text = if begins_with (codes ":") text then behind_digits (drop 1 text) else Some text

-- printable ASCII and no blank, and none of `"`, `'`, `,` and `;`
abbrev pub is_path_byte : ℕ → Bool
is_path_byte b = nat_le 33 b && nat_le b 126 && not (b == 34 || b == 39 || b == 44 || b == 59)

-- at how many places of a text a word stands
abbrev pub times : List ℕ → List ℕ → ℕ
times word [] = 0
times word (b ∷ bs) = if begins_with word (b ∷ bs) then suc (times word bs) else times word bs

-- a path with the zoom, column and row of a tile, once each
abbrev pub is_path : List ℕ → Bool
is_path path =
    begins_with (codes "/") path && list_all is_path_byte path
    && times (codes "{z}") path == 1 && times (codes "{x}") path == 1 && times (codes "{y}") path == 1

-- what follows the origin (RFC 6454, section 4): a scheme, a host and an optional port
abbrev pub behind_origin : List ℕ → Option (List ℕ)
behind_origin address = option_and_then behind_port (option_and_then behind_host (behind_scheme address))

abbrev pub most_address : ℕ
most_address = 256

-- an address of map tiles
abbrev pub is_path_at : Option (List ℕ) → Bool
is_path_at None = false
is_path_at (Some path) = is_path path

abbrev pub is_address : List ℕ → Bool
is_address address = nat_le (length address) most_address && is_path_at (behind_origin address)

-- its origin
abbrev pub before : List ℕ → Option (List ℕ) → List ℕ
before address None = []
before address (Some path) = take (length address - length path) address

abbrev pub origin_of : List ℕ → List ℕ
origin_of address = before address (behind_origin address)
