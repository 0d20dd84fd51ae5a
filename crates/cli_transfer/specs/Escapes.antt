-- Bytes from elsewhere, escaped for a terminal: printable ASCII (RFC 20) as it is, and each other byte by its number.
use Rattle.std.specs.Prelude.{ℕ, ◌+◌, ◌/◌, ◌%◌, ◌==◌, ◌&&◌, not, Bool, nat_le, nat_lt, if◌then◌else◌, List, [], ◌∷◌}
use Rattle.std.specs.List.{flat_map}

abbrev pub is_shown : ℕ → Bool
is_shown byte = nat_le 32 byte && nat_le byte 126 && not (byte == 92)

-- a lower-case hexadecimal digit
abbrev pub hex_digit : ℕ → ℕ
hex_digit digit = if nat_lt digit 10 then 48 + digit else 87 + digit

-- a byte that isn't shown, the backslash among them, is written as `\x` and two digits
abbrev pub escaped_byte : ℕ → List ℕ
escaped_byte byte = if is_shown byte then byte ∷ [] else 92 ∷ 120 ∷ hex_digit (byte / 16) ∷ hex_digit (byte % 16) ∷ []

abbrev pub escaped : List ℕ → List ℕ
escaped bytes = flat_map escaped_byte bytes
