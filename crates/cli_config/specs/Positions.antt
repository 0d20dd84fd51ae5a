-- Lines and columns of a text: both count from 1, a line feed ends a line, and columns are characters (Unicode scalar values), each of
-- which begins with a byte other than 0x80 to 0xBF (RFC 3629, section 3).
use Rattle.std.specs.Prelude.{ℕ, ◌+◌, List, [], ◌∷◌, Bool, not, ◌&&◌, ◌==◌, nat_le, take, if◌then◌else◌}
use Rattle.cli_config.specs.declared.position.TextPosition.{TextPosition}

abbrev pub begins_char : ℕ → Bool
begins_char b = not (nat_le 128 b && nat_le b 191)

-- the position after a byte
abbrev pub past : TextPosition → ℕ → TextPosition
past place b =
    if b == 10 then record { line = place.line + 1; column = 1 }
    else if begins_char b then record { line = place.line; column = place.column + 1 }
    else place

abbrev pub place_behind : TextPosition → List ℕ → TextPosition
place_behind place [] = place
place_behind place (b ∷ bs) = place_behind (past place b) bs

-- the position of the byte with this offset
abbrev pub place_at : List ℕ → ℕ → TextPosition
place_at text offset = place_behind (record { line = 1; column = 1 }) (take offset text)
