-- The units of a text of digits, a point and few decimals.
use Rattle.std.proofs.Common.{arith, ◌≡◌, ◌∙◌, sym, ap, refl, ℕ, ℤ, ◌+◌, ◌-◌, ◌*◌, ◌^◌, ◌<◌, ◌≤◌, true, false, eqb, Bool, List, [], ◌++◌, Ok, Option, Some, None, IfSome, subst, length, take, drop, get_or}
use Rattle.std.specs.Char.{is_ascii_digit}
use Rattle.std.specs.List.{prefix_len}
use Rattle.std.specs.Prelude.{nat_le}
use Rattle.std.specs.Str.Parse.{digits_value}
use Rattle.std.proofs.lemmas.Bool.{le-leb}
use Rattle.std.proofs.lemmas.Bool.Decides.{nat_tests}
use Rattle.std.proofs.lemmas.List.Sums.{prefix_len_is}
use Rattle.std.proofs.lemmas.Nat.{pow-add}
use Rattle.mds_text.specs.Fault.{◌>>=◌}
use Rattle.mds_text.specs.Numbers.{Parts, begins_with, behind_digits, behind_minus, digits, in_range, is_whole, number_of, scaled, short_number, size_of, units_of}
use Rattle.mds_text.proofs.Leading.{digits_value-turn, digit_value-is}
use Rattle.mds_text.proofs.Rounding.{digits_value-append}

-- the parts of such a text
abbrev pub parts_of : List ℕ → Parts
parts_of s =
    record {
      negative = begins_with 45 s;
      whole = digits (behind_minus s);
      fraction = digits (drop 1 (behind_digits (behind_minus s)));
      lowers = false;
      exponent = [];
    }

some_digits : (n : ℕ) → 1 ≤ n → eqb n 0 ≡ false
some_digits n h = grind (arith, nat_tests)

number_is : (s : List ℕ) → is_whole (digits (behind_minus s)) ≡ true → begins_with 46 (behind_digits (behind_minus s)) ≡ true
    → eqb (length (digits (drop 1 (behind_digits (behind_minus s))))) 0 ≡ false → behind_digits (drop 1 (behind_digits (behind_minus s))) ≡ []
    → number_of s ≡ Some (parts_of s)
unfolding number_of
number_is s whole point some all = rw (whole, point, some, all) refl

-- decimals, filled up with zeros to seven, are units
filled : (m f : ℕ) → f ≤ 7 → scaled m 7 (f + 0) ≡ m * 10 ^ (7 - f)
filled m f few =
    let up : 7 - (f + 0) ≡ 7 - f = omega arith in
    let fits : nat_le (f + 0) 7 ≡ true = grind (arith, nat_tests) in
    rw (fits, up) refl

tens : (f : ℕ) → f ≤ 7 → 10 ^ f * 10 ^ (7 - f) ≡ 10000000
tens f few =
    let seven : f + (7 - f) ≡ 7 = omega arith in
    sym (pow-add 10 f (7 - f)) ∙ ap (λ k. 10 ^ k) seven

joined : (w d p q : ℕ) → p * q ≡ 10000000 → (w * p + d) * q ≡ w * 10000000 + d * q
joined w d p q is = grind arith

size_is : (w d : List ℕ) → length d ≤ 7 → scaled (digits_value 10 (w ++ d)) 7 (length d + 0) ≡ digits_value 10 w * 10000000 + digits_value 10 d * 10 ^ (7 - length d)
size_is w d few =
    filled (digits_value 10 (w ++ d)) (length d) few
    ∙ ap (λ m. m * 10 ^ (7 - length d)) (digits_value-append w d)
    ∙ joined (digits_value 10 w) (digits_value 10 d) (10 ^ length d) (10 ^ (7 - length d)) (tens (length d) few)

-- the units of such a text, from those of its degrees and of its decimals
pub units_is : (s : List ℕ) (degrees decimals : ℕ) (z : ℤ) → length s ≤ 64
    → is_whole (digits (behind_minus s)) ≡ true → begins_with 46 (behind_digits (behind_minus s)) ≡ true
    → 1 ≤ length (digits (drop 1 (behind_digits (behind_minus s)))) → length (digits (drop 1 (behind_digits (behind_minus s)))) ≤ 7
    → behind_digits (drop 1 (behind_digits (behind_minus s))) ≡ []
    → degrees ≡ digits_value 10 (digits (behind_minus s))
    → decimals ≡ digits_value 10 (digits (drop 1 (behind_digits (behind_minus s)))) * 10 ^ (7 - length (digits (drop 1 (behind_digits (behind_minus s)))))
    → in_range (begins_with 45 s) (degrees * 10000000 + decimals) ≡ Ok z
    → units_of s ≡ Ok z
unfolding units_of size_of
units_is s degrees decimals z short whole point some few all d f within =
    let number = number_is s whole point (some_digits _ some) all in
    let fits : nat_le (length s) 64 ≡ true = le-leb (length s) 64 short in
    let size = size_is (digits (behind_minus s)) (digits (drop 1 (behind_digits (behind_minus s)))) few in
    ap (λ o. short_number (length s) o >>= λ n. in_range n.negative (size_of n)) number
    ∙ rw (fits, size, ← d, ← f) within

-- the same for an optional result
pub some_units : (s rest fraction : List ℕ) (negative : Bool) (degrees decimals : ℕ) (o : Option ℤ) → length s ≤ 64
    → negative ≡ begins_with 45 s → rest ≡ behind_minus s → fraction ≡ drop 1 (behind_digits rest)
    → is_whole (digits rest) ≡ true → begins_with 46 (behind_digits rest) ≡ true
    → 1 ≤ length (digits fraction) → length (digits fraction) ≤ 7 → behind_digits fraction ≡ []
    → degrees ≡ digits_value 10 (digits rest)
    → decimals ≡ digits_value 10 (digits fraction) * 10 ^ (7 - length (digits fraction))
    → IfSome o (λ u. in_range negative (degrees * 10000000 + decimals) ≡ Ok u)
    → IfSome o (λ u. units_of s ≡ Ok u)
some_units s rest fraction negative degrees decimals None short sign r u whole point some few all d f within = tt
some_units s rest fraction negative degrees decimals (Some z) short sign r u whole point some few all d f within =
    let behind : fraction ≡ drop 1 (behind_digits (behind_minus s)) = u ∙ ap (λ t. drop 1 (behind_digits t)) r in
    units_is s degrees decimals z short
    (ap (λ t. is_whole (digits t)) (sym r) ∙ whole) (ap (λ t. begins_with 46 (behind_digits t)) (sym r) ∙ point)
    (subst (λ t. 1 ≤ length (digits t)) behind some) (subst (λ t. length (digits t) ≤ 7) behind few)
    (ap behind_digits (sym behind) ∙ all)
    (d ∙ ap (λ t. digits_value 10 (digits t)) r)
    (f ∙ ap (λ t. digits_value 10 (digits t) * 10 ^ (7 - length (digits t))) behind)
    (ap (λ b. in_range b (degrees * 10000000 + decimals)) (sym sign) ∙ within)

-- ---- leading digits

pub digits_end : (s : List ℕ) (n : ℕ) → n ≤ length s → ((k : ℕ) → k < n → is_ascii_digit (get_or s k 0) ≡ true)
    → (n < length s → is_ascii_digit (get_or s n 0) ≡ false) → n ≡ prefix_len is_ascii_digit s
digits_end s n within passed stop = sym (prefix_len_is is_ascii_digit s n 0 within passed stop)

pub value_end : (s : List ℕ) (n value : ℕ) → value ≡ digits_value 10 (take n s) → n ≡ prefix_len is_ascii_digit s → value ≡ digits_value 10 (digits s)
value_end s n value is end = is ∙ ap (λ k. digits_value 10 (take k s)) end

digit_range : (c : ℕ) → is_ascii_digit c ≡ true → (48 ≤ c) × (c ≤ 57)
digit_range c h = grind (arith, nat_tests)

-- one more digit
pub digit_turn : (s : List ℕ) (i value digit : ℕ) → i < length s → is_ascii_digit (get_or s i 0) ≡ true → digit ≡ get_or s i 0 - 48
    → value ≡ digits_value 10 (take i s) → value < 10 ^ i
    → (value * 10 + digit ≡ digits_value 10 (take (i + 1) s)) × (value * 10 + digit < 10 ^ (i + 1))
digit_turn s i value digit within is d before few =
    let range = digit_range (get_or s i 0) is in
    digits_value-turn s i value digit within before few (d ∙ sym (digit_value-is (get_or s i 0) range.0 range.1)) (omega arith)
