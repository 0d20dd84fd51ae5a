-- Which texts are numbers (RFC 8259, section 6), and their value in units of 10^-7 degree.
use Rattle.std.specs.Prelude.{ℕ, zero, suc, ℤ, pos, neg_ℤ, ◌+◌, ◌-◌, ◌*◌, ◌/◌, ◌^◌, ◌==◌, ◌&&◌, ◌||◌, not, nat_le, nat_lt, Bool, false, if◌then◌else◌, List, [], ◌∷◌, ◌++◌, length, drop, slice_index, Option, Some, None, option_and_then, Result, Ok, Err}
use Rattle.std.specs.Char.{digit_value, is_ascii_digit}
use Rattle.std.specs.List.{prefix_len, take_while}
use Rattle.std.specs.Str.Parse.{AllDigits, digits_value}
use Rattle.mds_text.specs.declared.number.Number.{Number}
use Rattle.mds_text.specs.Fault.{Fault, bad_number, out_of_range, ◌>>=◌}

-- the parts of a number: `-12.50e-3` is negative, has the digits `12` before the point and `50` after it, and `lowers`
-- says that its exponent `3` has a minus
pub record Parts : Type 0 where
  pub negative : Bool
  pub whole : List ℕ
  pub fraction : List ℕ
  pub lowers : Bool
  pub exponent : List ℕ

-- the text begins with this byte
abbrev pub begins_with : ℕ → List ℕ → Bool
begins_with b [] = false
begins_with b (c ∷ s) = b == c

-- the text without a leading minus
abbrev pub behind_minus : List ℕ → List ℕ
behind_minus s = if begins_with 45 s then drop 1 s else s

-- the text without a leading sign
abbrev pub behind_sign : List ℕ → List ℕ
behind_sign s = if begins_with 45 s || begins_with 43 s then drop 1 s else s

-- the digits that a text begins with, and what follows them
abbrev pub digits : List ℕ → List ℕ
digits s = take_while is_ascii_digit s

abbrev pub behind_digits : List ℕ → List ℕ
behind_digits s = drop (prefix_len is_ascii_digit s) s

-- one digit or more, the first of several being no zero
abbrev pub is_whole : List ℕ → Bool
is_whole [] = false
is_whole (d ∷ ds) = not (d == 48) || (length ds == 0)

-- int: zero, or digits that begin with no zero; with what follows
abbrev pub whole_at : List ℕ → Option (List ℕ × List ℕ)
whole_at s = if is_whole (digits s) then Some (digits s, behind_digits s) else None

-- one digit or more, with what follows
abbrev pub digits_at : List ℕ → Option (List ℕ × List ℕ)
digits_at s = if length (digits s) == 0 then None else Some (digits s, behind_digits s)

-- frac: a point and one digit or more, where the text begins with a point
abbrev pub fraction_at : List ℕ → Option (List ℕ × List ℕ)
fraction_at s = if begins_with 46 s then digits_at (drop 1 s) else Some ([], s)

-- exp: an `e` or `E`, an optional sign, and one digit or more, where the text begins with an `e` or `E`
abbrev pub has_exponent : List ℕ → Bool
has_exponent s = begins_with 101 s || begins_with 69 s

abbrev pub exponent_at : List ℕ → Option (List ℕ × List ℕ)
exponent_at s = if has_exponent s then digits_at (behind_sign (drop 1 s)) else Some ([], s)

-- the exponent has a minus
abbrev pub is_lowering : List ℕ → Bool
is_lowering s = has_exponent s && begins_with 45 (drop 1 s)

-- the value, where no text is left
abbrev pub if_all : {A : Type 0} → A → List ℕ → Option A
if_all a s = if length s == 0 then Some a else None

-- the number of two decimal digits, where it isn't above `most`
abbrev pub two_digits : ℕ → ℕ → ℕ → Option ℕ
two_digits most tens ones =
    if is_ascii_digit tens && is_ascii_digit ones && nat_le ((tens - 48) * 10 + (ones - 48)) most
    then Some ((tens - 48) * 10 + (ones - 48)) else None

-- number: an optional minus, int, frac and exp, and nothing else
unfoldable pub number_of : List ℕ → Option Parts
number_of s =
    option_and_then (λ w. option_and_then (λ f. option_and_then (λ e.
    if_all (record { negative = begins_with 45 s; whole = w.0; fraction = f.0; lowers = is_lowering f.1; exponent = e.0 }) e.1)
    (exponent_at f.1)) (fraction_at w.1)) (whole_at (behind_minus s))

-- plain: an optional minus and 1 to 18 digits, and not `-0`
abbrev pub is_plain : Parts → Bool
is_plain n =
    (length n.fraction == 0) && (length n.exponent == 0) && nat_le (length n.whole) 18 && not (n.negative && begins_with 48 n.whole)

-- how many tens the exponent multiplies by, and how many the fraction and the exponent divide by
abbrev pub tens_up : Parts → ℕ
tens_up n = if n.lowers then 0 else digits_value 10 n.exponent

abbrev pub tens_down : Parts → ℕ
tens_down n = length n.fraction + (if n.lowers then digits_value 10 n.exponent else 0)

-- all digits of a number as one whole number; its size is that, times ten to the power of `tens_up`, divided by ten to
-- the power of `tens_down`
abbrev pub all_digits : Parts → ℕ
all_digits n = digits_value 10 (n.whole ++ n.fraction)

-- a whole number divided by another, rounded half away from zero
abbrev pub rounded : ℕ → ℕ → ℕ
rounded m d = (2 * m + d) / (2 * d)

-- a whole number times 10^up, divided by 10^down, rounded half away from zero
abbrev pub scaled : ℕ → ℕ → ℕ → ℕ
scaled m up down = if nat_le down up then m * 10 ^ (up - down) else rounded m (10 ^ (down - up))

-- the absolute value of a number of degrees, in units of 10^-7 degree
unfoldable pub size_of : Parts → ℕ
size_of n = scaled (all_digits n) (7 + tens_up n) (tens_down n)

abbrev pub signed : Bool → ℕ → ℤ
signed negative size = if negative then neg_ℤ (pos size) else pos size

-- the most bytes of a number's text, the most digits of its exponent, and 180 degrees in units
abbrev pub most_bytes : ℕ
most_bytes = 64

abbrev pub most_exponent_digits : ℕ
most_exponent_digits = 3

abbrev pub most_units : ℕ
most_units = 1800000000

abbrev pub least_units : ℤ
least_units = neg_ℤ (pos most_units)

-- a number whose text and exponent aren't too long
abbrev pub short_number : ℕ → Option Parts → Result Parts Fault
short_number len None = Err bad_number
short_number len (Some n) = if nat_le len most_bytes && nat_le (length n.exponent) most_exponent_digits then Ok n else Err bad_number

-- a signed number of units, not beyond 180 degrees
abbrev pub in_range : Bool → ℕ → Result ℤ Fault
in_range negative size = if nat_le size most_units then Ok (signed negative size) else Err out_of_range

-- the units of 10^-7 degree that a number's text gives
unfoldable pub units_of : List ℕ → Result ℤ Fault
units_of s = short_number (length s) (number_of s) >>= λ n. in_range n.negative (size_of n)

-- the parts of a number are digits
pub record HasDigits (n : Parts) : Type 0 where
  pub whole : AllDigits 10 n.whole
  pub fraction : AllDigits 10 n.fraction
  pub exponent : AllDigits 10 n.exponent

-- the digit at a place, and zero after the last one
abbrev pub digit_at : List ℕ → ℕ → ℕ
digit_at ds place = if nat_lt place (length ds) then digit_value (slice_index ds place) else 0

-- the value of the first `place` digits
unfoldable pub leading : List ℕ → ℕ → ℕ
leading ds zero = 0
leading ds (suc place) = leading ds place * 10 + digit_at ds place

-- how many digits of a number of degrees come before the hundredths of a unit
abbrev pub places_of : Parts → ℕ
places_of n = length n.whole + 8 + tens_up n - (if n.lowers then digits_value 10 n.exponent else 0)

-- the number, where it isn't above the limit
abbrev pub up_to_limit : ℕ → ℕ → Option ℕ
up_to_limit most n = if nat_le n most then Some n else None

-- the parts that a `Number` borrows
abbrev pub parts_view : Number → Parts
parts_view n = record { negative = n.negative; whole = n.whole.now; fraction = n.fraction.now; lowers = n.lowers; exponent = n.exponent.now }
