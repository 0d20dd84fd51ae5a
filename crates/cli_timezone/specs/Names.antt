-- Names of time zones, as in the IANA time zone database and after a colon in POSIX's TZ variable, and the file of one.
use Rattle.std.specs.Prelude.{ℕ, List, [], ◌∷◌, ◌++◌, Bool, true, false, ◌&&◌, ◌||◌, ◌==◌, nat_le, length, if◌then◌else◌, codes}
use Rattle.cli_timezone.specs.declared.name.TheConstants.{MOST_NAME}

-- a letter, a digit, `_`, `-` or `+`
abbrev pub is_part_byte : ℕ → Bool
is_part_byte b = (nat_le 65 b && nat_le b 90) || (nat_le 97 b && nat_le b 122) || (nat_le 48 b && nat_le b 57) || (b == 95) || (b == 45) || (b == 43)

-- parts of such bytes, each of one at least, with a slash between each two; whether the first has begun
abbrev pub are_parts : Bool → List ℕ → Bool
are_parts begun [] = begun
are_parts begun (b ∷ bs) = if b == 47 then begun && are_parts false bs else is_part_byte b && are_parts true bs

-- a text is the name of a zone
abbrev pub is_zone_name : List ℕ → Bool
is_zone_name text = nat_le (length text) MOST_NAME && are_parts false text

-- the file of a zone
abbrev pub path_of : List ℕ → List ℕ
path_of name = codes "/usr/share/zoneinfo/" ++ name
