-- A city's name in etcd.
use Rattle.std.specs.Prelude.{ℕ, ◌==◌, ◌&&◌, ◌||◌, nat_lt, nat_le, Bool, List, length}
use Rattle.std.specs.Char.{is_ascii_alphanumeric}
use Rattle.std.specs.List.{list_all}
use Rattle.cli_log.specs.declared.place.TheConstants.{MOST_CITY}

-- a letter, a digit, `-` or `_`
abbrev pub is_city_byte : ℕ → Bool
is_city_byte byte = is_ascii_alphanumeric byte || (byte == 45) || (byte == 95)

abbrev pub is_city : List ℕ → Bool
is_city word = (nat_lt 0 (length word) && nat_le (length word) MOST_CITY) && list_all is_city_byte word
