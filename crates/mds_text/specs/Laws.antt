-- Laws of the definitions of numbers and of quoting.
use Rattle.std.specs.Prelude.{◌≡◌, ℕ, ◌+◌, ◌*◌, ◌^◌, ◌<◌, ◌≤◌, ℤ, pos, ◌≤ℤ◌, List, Ok}
use Rattle.std.specs.List.{concat}
use Rattle.mds_text.specs.Numbers.{Parts, all_digits, least_units, most_units, size_of, tens_down, tens_up, units_of}
use Rattle.mds_text.specs.Printed.{printed_degrees}
use Rattle.mds_text.specs.Quoting.{pieces}

-- what is printed of a coordinate is read as that coordinate
abbrev pub PrintedIsRead : Type 0
PrintedIsRead = (units : ℤ) → least_units ≤ℤ units → units ≤ℤ pos most_units → units_of (printed_degrees units) ≡ Ok units

-- the pieces of a text, concatenated, are the text: quoting adds quotation marks and nothing else
abbrev pub PiecesAreTheText : Type 0
PiecesAreTheText = (text : List ℕ) → concat (pieces text) ≡ text

-- the exact size of a number of degrees, in units of 10^-7 degree, as a fraction: the number of all its digits times
-- 10^(7 + `tens_up`), divided by 10^`tens_down`
abbrev pub dividend : Parts → ℕ
dividend n = all_digits n * 10 ^ (7 + tens_up n)

abbrev pub divisor : Parts → ℕ
divisor n = 10 ^ tens_down n

-- the size in whole units differs from the exact size by at most half a unit, upwards or downwards (both are
-- multiplied by twice the divisor, so that half a unit is the divisor)
abbrev pub WithinHalfAUnit : Type 0
WithinHalfAUnit = (n : Parts) → (2 * (size_of n * divisor n) ≤ 2 * dividend n + divisor n) × (2 * dividend n ≤ 2 * (size_of n * divisor n) + divisor n)

-- the size in whole units is never half a unit below the exact size: of two that are equally near it is the greater, so
-- that the coordinate, which gets its sign afterwards, is the one farther from zero
abbrev pub HalvesGoAwayFromZero : Type 0
HalvesGoAwayFromZero = (n : Parts) → 2 * dividend n < 2 * (size_of n * divisor n) + divisor n
