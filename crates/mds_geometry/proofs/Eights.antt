-- Eight digits read as the bytes of one word.
use Rattle.std.proofs.Common.{arith, ◌≡◌, ◌∙◌, sym, ap, refl, subst, ℕ, ℤ, suc, ◌+◌, ◌*◌, ◌^◌, ◌<◌, ◌≤◌, true, false, eqb, Bool, List, [], ◌∷◌, ◌++◌, length, take, drop, get_or, Ok, Option, None, Some, IfSome, if◌then◌else◌, bit_xor}
use Rattle.std.specs.Char.{is_ascii_digit}
use Rattle.std.specs.Int.{w64, from_le_bytes}
use Rattle.std.specs.Int.Digits.{number_from_digits}
use Rattle.std.specs.List.{prefix_len}
use Rattle.std.specs.Simd.Lanes.{number_l}
use Rattle.std.specs.Str.Parse.{digits_value}
use Rattle.std.proofs.lemmas.Int.Digits.{digits_value-lt}
use Rattle.std.proofs.lemmas.Bool.Decides.{nat_tests}
use Rattle.std.proofs.Math.Seq.{drop-append_seam, take-append_seam}
use Rattle.std.proofs.lemmas.List.{drop_all, length-append, length-drop, take_all}
use Rattle.std.proofs.lemmas.List.Folds.{length-prefix_len, prefix_len-append}
use Rattle.core.specs.Dec2flt.Digits.{IsEightBytes, IsEightDigits}
use Rattle.core.specs.Slice.Scan.{little_endian}
use Rattle.core.proofs.dec2flt.Eight.{bytes_of, lanes_are, shifted_is, word_at}
use Rattle.mds_text.specs.Numbers.{begins_with, behind_digits, behind_minus, digits, in_range, is_whole, units_of}
use Rattle.mds_text.proofs.Digits.{AllDigits-digits}
use Rattle.mds_geometry.proofs.Decimals.{some_units}

-- a word of digits, once the zeros are taken off
pub digits_are : (xs : List ℕ) (word lanes value : ℕ) → IsEightBytes xs → word ≡ number_l 256 xs → prefix_len is_ascii_digit xs ≡ 8
    → lanes ≡ bit_xor word 0x3030_3030_3030_3030 → lanes < 2 ^ 64
    → ((ds : List ℕ) → IsEightDigits ds → lanes ≡ number_l 256 ds → value ≡ number_from_digits 10 ds)
    → value ≡ digits_value 10 xs
digits_are xs word lanes value eight is all l small worth =
    let s = shifted_is xs 8 lanes eight (omega arith) (omega arith) (omega (arith, l ∙ lanes_are xs word eight is)) in
    worth s.0 s.1 s.2 ∙ s.3 ∙ ap (digits_value 10) (take_all 8 xs (omega arith))

-- a point and seven digits as a word: adding two makes the point a zero
pub behind_point : (t : List ℕ) (word : ℕ) → length t ≡ 8 → ((k : ℕ) → get_or t k 0 < 256) → get_or t 0 0 ≡ 46 → word ≡ from_le_bytes w64 t
    → IsEightBytes (48 ∷ drop 1 t) × (word + 2 ≡ number_l 256 (48 ∷ drop 1 t))
behind_point [] word long small point is = absurd (omega arith)
behind_point (c ∷ s) word long small point is =
    let spelt : word ≡ little_endian (c ∷ s) 0 = omega (arith, is) in
    let whole : word ≡ c + 256 * number_l 256 s = spelt ∙ word_at (c ∷ s) 0 (omega arith) ∙ ap (number_l 256) (take_all 8 (c ∷ s) (omega arith)) in
    ((omega arith, (omega arith, bytes_of s (λ k. small (suc k)))), omega arith)

pub begins : (t : List ℕ) → length t ≡ 8 → get_or t 0 0 ≡ 46 → begins_with 46 t ≡ true
begins [] long point = absurd (omega arith)
begins (c ∷ s) long point = ap (λ b. eqb 46 b) point

pub eight_behind_zero : (s : List ℕ) → prefix_len is_ascii_digit (48 ∷ s) ≡ 8 → prefix_len is_ascii_digit s ≡ 7
eight_behind_zero s e = omega arith

-- where all seven are digits, nothing follows them
pub whole_is : (s : List ℕ) → length s ≡ 7 → prefix_len is_ascii_digit s ≡ 7 → (digits s ≡ s) × (behind_digits s ≡ [])
whole_is s long all = (take_all _ s (omega arith), drop_all _ s (omega arith))

pub whole_small : (s : List ℕ) → length s ≡ 7 → prefix_len is_ascii_digit s ≡ 7 → digits_value 10 s < 10000000
whole_small s long all =
    let whole = (whole_is s long all).0 in
    let below = digits_value-lt 10 (digits s) (AllDigits-digits s) in
    subst (λ n. digits_value 10 s < 10 ^ n) long (subst (λ t. digits_value 10 t < 10 ^ length t) whole below)

-- what is known of seven digits
pub record IsSeven (s : List ℕ) (n : ℕ) : Type 0 where
  pub count : prefix_len is_ascii_digit s ≡ 7
  pub value : n ≡ digits_value 10 (digits s)
  pub all : behind_digits s ≡ []
  pub small : n < 10000000

pub seven_found : (s : List ℕ) (o : Option ℕ) → length s ≡ 7 → IfSome o (λ n. prefix_len is_ascii_digit (48 ∷ s) ≡ 8) → IfSome o (λ n. n ≡ digits_value 10 (48 ∷ s))
    → IfSome o (IsSeven s)
seven_found s None long eight value = tt
seven_found s (Some n) long eight value =
    let count = eight_behind_zero s eight in
    let whole = whole_is s long count in
    record {
      count = count;
      value = value ∙ ap (digits_value 10) (sym whole.0);
      all = whole.1;
      small = subst (λ k. k < 10000000) (sym value) (whole_small s long count);
    }

-- ---- one to three whole digits before the point

-- what is known of one to three digits
pub record IsFew (s : List ℕ) (n : ℕ) : Type 0 where
  pub whole : is_whole s ≡ true
  pub count : prefix_len is_ascii_digit s ≡ length s
  pub few : length s ≤ 3
  pub value : n ≡ digits_value 10 s
  pub small : n < 1000

no_digit : (t : List ℕ) → begins_with 46 t ≡ true → prefix_len is_ascii_digit t ≡ 0
no_digit [] point = refl
no_digit (c ∷ t) point = let other : is_ascii_digit c ≡ false = grind (arith, nat_tests) in rw other refl

count_is : (w t : List ℕ) → prefix_len is_ascii_digit w ≡ length w → begins_with 46 t ≡ true → prefix_len is_ascii_digit (w ++ t) ≡ length w
count_is w t all point =
    let same : eqb (length w) (length w) ≡ true = grind (arith, nat_tests) in
    rw (prefix_len-append is_ascii_digit w t, all, same, no_digit t point) (omega arith)

-- the digits before a point are the whole part
pub front_is : (w t : List ℕ) → prefix_len is_ascii_digit w ≡ length w → begins_with 46 t ≡ true → (digits (w ++ t) ≡ w) × (behind_digits (w ++ t) ≡ t)
front_is w t all point =
    let count = count_is w t all point in
    (ap (λ k. take k (w ++ t)) count ∙ take-append_seam w t, ap (λ k. drop k (w ++ t)) count ∙ drop-append_seam w t)

short : (s : List ℕ) (b : Bool) → length s ≤ length (if b then drop 1 s else s) + 1
short s true = omega (arith, length-drop 1 s)
short s false = omega arith

-- the units of a text of one to three whole digits and seven decimals
pub usual_is : (s rest w t : List ℕ) (negative : Bool) (degrees decimals : ℕ) (o : Option ℤ)
    → negative ≡ begins_with 45 s → rest ≡ behind_minus s → rest ≡ w ++ t → length t ≡ 8 → IsFew w degrees
    → begins_with 46 t ≡ true → IsSeven (drop 1 t) decimals
    → IfSome o (λ u. in_range negative (degrees * 10000000 + decimals) ≡ Ok u)
    → IfSome o (λ u. units_of s ≡ Ok u)
usual_is s rest w t negative degrees decimals o sign r joined eight few point seven within =
    let front = front_is w t few.count point in
    let digits-are : digits rest ≡ w = ap digits joined ∙ front.0 in
    let behind : behind_digits rest ≡ t = ap behind_digits joined ∙ front.1 in
    let count : length (digits (drop 1 t)) ≡ 7 = length-prefix_len is_ascii_digit (drop 1 t) ∙ seven.count in
    let bytes : length rest ≡ length w + length t = ap length joined ∙ length-append w t in
    let back : length s ≤ length rest + 1 = subst (λ u. length s ≤ length u + 1) (sym r) (short s (begins_with 45 s)) in
    some_units s rest (drop 1 t) negative degrees decimals o (omega (arith, few.few)) sign r (ap (drop 1) (sym behind))
    (ap is_whole digits-are ∙ few.whole) (ap (begins_with 46) behind ∙ point) (omega arith) (omega arith) seven.all
    (few.value ∙ ap (digits_value 10) (sym digits-are))
    (seven.value ∙ rw count (omega arith))
    within
