-- Printed degrees are the text of a number, and it is the number that was printed.
use Rattle.std.proofs.Common.{◌≡◌, ℕ, zero, suc, ℤ, pos, negsuc, ◌≤ℤ◌, ◌+◌, ◌-◌, ◌*◌, ◌/◌, ◌%◌, ◌^◌, ◌<◌, ◌≤◌, List, [], ◌∷◌, ◌++◌, Bool, true, false, cond, ◌&&◌, eqb, nat_le, Option, Some, None, option_and_then, Result, Ok, Err, inl, inr, length, take, drop, get_or, refl, sym, ap, subst, ◌∙◌, arith, length-append, append-nil}
use Rattle.std.proofs.Math.Nat.{pow-suc}
use Rattle.std.proofs.Math.Seq.{take-append_seam, drop-append_seam}
use Rattle.std.proofs.lemmas.Bool.{cases_lt, ne_eqb, le-leb}
use Rattle.std.proofs.lemmas.Bool.Decides.{nat_tests}
use Rattle.std.proofs.lemmas.Fmt.{IsAscii-from_digits, decimal_digit, decimal_is_IsNumeral, first_decimal, length-decimal-le}
use Rattle.std.proofs.lemmas.Int.{ints}
use Rattle.std.proofs.lemmas.Nat.{pow-add, div_below, div-add-mod', mod_below}
use Rattle.std.proofs.lemmas.Str.Parse.{digit_from_value}
use Rattle.std.proofs.lemmas.Str.{IsAscii-append}
use Rattle.std.proofs.lemmas.Str.Ascii.{IsAscii-cons, IsAscii-nil}
use Rattle.std.specs.Str.{IsAscii}
use Rattle.std.specs.Char.{digit_value, is_ascii_digit}
use Rattle.std.specs.Fmt.{decimal, digit_glyph, digits_onto}
use Rattle.std.specs.Fmt as fmt
use Rattle.std.specs.List.{prefix_len}
use Rattle.std.specs.Str.Parse.{AllDigits, digits_value}
use Rattle.mds_text.proofs.Decimals.{decimals-none, decimals-suc, ten_pos}
use Rattle.mds_text.proofs.Leading.{digit_value-is}
use Rattle.mds_text.proofs.Rounding.{digits_value-append, digits_value-cons, scaled_up}
use Rattle.mds_text.specs.Fault.{Fault, bad_number, out_of_range, ◌>>=◌}
use Rattle.mds_text.specs.Numbers.{Parts, begins_with, behind_digits, behind_minus, digits, exponent_at, fraction_at, in_range, is_lowering, is_whole, number_of, short_number, signed, size_of, units_of, whole_at}
use Rattle.mds_text.specs.Printed.{decimals, fraction, printed_degrees, unsigned_degrees}

-- the decimals of a fraction: digits, at most as many as there are places, with its value
pub record AreDecimals (places rest : ℕ) (ds : List ℕ) : Type 0 where
  pub all : AllDigits 10 ds
  pub few : length ds ≤ places
  pub value : digits_value 10 ds * 10 ^ (places - length ds) ≡ rest

decimals_none : (places : ℕ) → AreDecimals places 0 []
decimals_none places = record { all = tt; few = omega arith; value = omega arith }

decimals_more : (p rest : ℕ) (ds : List ℕ) → rest < 10 ^ suc p → AreDecimals p (rest % 10 ^ p) ds → AreDecimals (suc p) rest ((48 + rest / 10 ^ p) ∷ ds)
decimals_more p rest ds small h =
    let digit = rest / 10 ^ p in
    let below : digit < 10 = div_below rest (10 ^ p) 10 (ten_pos p) (omega (arith, small, pow-suc 10 p)) in
    let value : digit_value (48 + digit) ≡ digit = digit_value-is (48 + digit) (omega arith) (omega arith) ∙ omega arith in
    let left = p - length ds in
    let same : suc p - suc (length ds) ≡ left = omega arith in
    let places : length ds + left ≡ p = omega (arith, h.few) in
    let powers : 10 ^ length ds * 10 ^ left ≡ 10 ^ p = sym (pow-add 10 (length ds) left) ∙ ap (λ k. 10 ^ k) places in
    let whole : digit * 10 ^ p + rest % 10 ^ p ≡ rest = div-add-mod' rest (10 ^ p) in
    let written : digits_value 10 ((48 + digit) ∷ ds) ≡ digit * 10 ^ length ds + digits_value 10 ds = digits_value-cons (48 + digit) ds ∙ ap (λ k. k * 10 ^ length ds + digits_value 10 ds) value in
    let front : digit * 10 ^ length ds * 10 ^ left ≡ digit * 10 ^ p = omega (arith, ap (λ k. digit * k) powers) in
    record {
      all = (omega (arith, value, below), h.all);
      few = omega (arith, h.few);
      value =
          ap (λ k. digits_value 10 ((48 + digit) ∷ ds) * 10 ^ k) same
          ∙ ap (λ k. k * 10 ^ left) written
          ∙ omega (arith, front, h.value, whole);
    }

pub decimals_are : (places rest : ℕ) → rest < 10 ^ places → AreDecimals places rest (decimals places rest)
decimals_are zero rest small =
    let none : rest ≡ 0 = omega arith in
    subst (λ r. AreDecimals 0 r (decimals 0 r)) (sym none) (subst (AreDecimals 0 0) (sym (decimals-none 0)) (decimals_none 0))
decimals_are (suc p) rest small =
    elim (cases_lt 0 rest) [
      | inl some ↦ subst (AreDecimals (suc p) rest) (sym (decimals-suc p rest some)) (decimals_more p rest (decimals p (rest % 10 ^ p)) small (decimals_are p (rest % 10 ^ p) (mod_below rest (10 ^ p) (ten_pos p))))
      | inr none ↦
          let is : rest ≡ 0 = omega arith in
          subst (λ r. AreDecimals (suc p) r (decimals (suc p) r)) (sym is) (subst (AreDecimals (suc p) 0) (sym (decimals-none (suc p))) (decimals_none (suc p)))
    ]

is_digit : (c : ℕ) → digit_value c < 10 → is_ascii_digit c ≡ true
is_digit c h = let range = digit_from_value c h in grind (arith, nat_tests)

-- how many digits a text begins with: those before a rest that begins with no digit
digits_len : (ds rest : List ℕ) → AllDigits 10 ds → prefix_len is_ascii_digit rest ≡ 0 → prefix_len is_ascii_digit (ds ++ rest) ≡ length ds
digits_len [] rest h none = none
digits_len (d ∷ ds) rest h none =
    ap (λ b. cond b (1 + prefix_len is_ascii_digit (ds ++ rest)) 0) (is_digit d h.0) ∙ ap (λ k. 1 + k) (digits_len ds rest h.1 none) ∙ omega arith

digits_in_front : (ds rest : List ℕ) → AllDigits 10 ds → prefix_len is_ascii_digit rest ≡ 0 → digits (ds ++ rest) ≡ ds
digits_in_front ds rest h none = ap (λ k. take k (ds ++ rest)) (digits_len ds rest h none) ∙ take-append_seam ds rest

rest_behind : (ds rest : List ℕ) → AllDigits 10 ds → prefix_len is_ascii_digit rest ≡ 0 → behind_digits (ds ++ rest) ≡ rest
rest_behind ds rest h none = ap (λ k. drop k (ds ++ rest)) (digits_len ds rest h none) ∙ drop-append_seam ds rest

-- a point and decimals, where there are any
abbrev point : List ℕ → List ℕ
point [] = []
point (d ∷ ds) = 46 ∷ d ∷ ds

point_ends : (fs : List ℕ) → prefix_len is_ascii_digit (point fs) ≡ 0
point_ends [] = refl
point_ends (f ∷ fs) = refl

all_of : (fs : List ℕ) → AllDigits 10 fs → digits fs ≡ fs
all_of fs h = ap digits (sym (append-nil fs)) ∙ digits_in_front fs [] h refl

none_behind : (fs : List ℕ) → AllDigits 10 fs → behind_digits fs ≡ []
none_behind fs h = ap behind_digits (sym (append-nil fs)) ∙ rest_behind fs [] h refl

whole_at-written : (ws fs : List ℕ) → AllDigits 10 ws → is_whole ws ≡ true → whole_at (ws ++ point fs) ≡ Some (ws, point fs)
whole_at-written ws fs h whole =
    let front = digits_in_front ws (point fs) h (point_ends fs) in
    let behind = rest_behind ws (point fs) h (point_ends fs) in
    ap (λ b. cond b (Some (digits (ws ++ point fs), behind_digits (ws ++ point fs))) None) (ap is_whole front ∙ whole)
    ∙ ap (λ d. Some (d, behind_digits (ws ++ point fs))) front
    ∙ ap (λ r. Some (ws, r)) behind

fraction_at-written : (fs : List ℕ) → AllDigits 10 fs → fraction_at (point fs) ≡ Some (fs, [])
fraction_at-written [] h = refl
fraction_at-written (f ∷ fs) h =
    let front = all_of (f ∷ fs) h in
    let behind = none_behind (f ∷ fs) h in
    let found : List ℕ → List ℕ → Option (List ℕ × List ℕ) = λ ds rest. Some (ds, rest) in
    ap (λ d. cond (eqb (length d) 0) None (found d (behind_digits (f ∷ fs)))) front
    ∙ ap (λ b. cond b None (found (f ∷ fs) (behind_digits (f ∷ fs)))) (ne_eqb (length (f ∷ fs)) 0 (λ e. omega arith))
    ∙ ap (found (f ∷ fs)) behind

-- the text of a number that has no exponent
abbrev with_minus : Bool → List ℕ → List ℕ
with_minus true s = 45 ∷ s
with_minus false s = s

abbrev plain_parts : Bool → List ℕ → List ℕ → Parts
plain_parts negative ws fs = record { negative = negative; whole = ws; fraction = fs; lowers = false; exponent = [] }

no_minus : (ws rest : List ℕ) → AllDigits 10 ws → is_whole ws ≡ true → begins_with 45 (ws ++ rest) ≡ false
no_minus [] rest h whole = cc
no_minus (w ∷ ws) rest h whole = let range = digit_from_value w h.0 in ne_eqb 45 w (λ e. omega (arith, range.0))

rest_of : List ℕ → (Bool → List ℕ → Option Parts)
rest_of s = λ negative body. option_and_then (λ w. option_and_then (λ f. option_and_then (λ e.
    cond (eqb (length e.1) 0) (Some (record { negative = negative; whole = w.0; fraction = f.0; lowers = is_lowering f.1; exponent = e.0 })) None)
    (exponent_at f.1)) (fraction_at w.1)) (whole_at body)

number_of-body : (s body : List ℕ) (negative : Bool) (ws fs : List ℕ) → begins_with 45 s ≡ negative → behind_minus s ≡ ws ++ point fs → AllDigits 10 ws → is_whole ws ≡ true → AllDigits 10 fs
    → number_of s ≡ Some (plain_parts negative ws fs)
unfolding number_of rest_of
number_of-body s body negative ws fs sign is hw whole hf =
    ap (rest_of s (begins_with 45 s)) is
    ∙ ap (λ b. rest_of s b (ws ++ point fs)) sign
    ∙ ap (option_and_then (λ w. option_and_then (λ f. option_and_then (λ e.
    cond (eqb (length e.1) 0) (Some (record { negative = negative; whole = w.0; fraction = f.0; lowers = is_lowering f.1; exponent = e.0 })) None)
    (exponent_at f.1)) (fraction_at w.1))) (whole_at-written ws fs hw whole)
    ∙ ap (option_and_then (λ f. option_and_then (λ e.
    cond (eqb (length e.1) 0) (Some (record { negative = negative; whole = ws; fraction = f.0; lowers = is_lowering f.1; exponent = e.0 })) None)
    (exponent_at f.1))) (fraction_at-written fs hf)

number_of-written : (negative : Bool) (ws fs : List ℕ) → AllDigits 10 ws → is_whole ws ≡ true → AllDigits 10 fs → number_of (with_minus negative (ws ++ point fs)) ≡ Some (plain_parts negative ws fs)
number_of-written true ws fs hw whole hf = number_of-body (45 ∷ ws ++ point fs) [] true ws fs refl refl hw whole hf
number_of-written false ws fs hw whole hf =
    let none = no_minus ws (point fs) hw whole in
    number_of-body (ws ++ point fs) [] false ws fs none (ap (λ b. cond b (drop 1 (ws ++ point fs)) (ws ++ point fs)) none) hw whole hf

-- the units of such a number
size_of-written : (negative : Bool) (ws fs : List ℕ) (whole rest : ℕ) → digits_value 10 ws ≡ whole → AreDecimals 7 rest fs → size_of (plain_parts negative ws fs) ≡ whole * 10000000 + rest
unfolding size_of
size_of-written negative ws fs whole rest is h =
    let left = 7 - length fs in
    let same : 7 - (length fs + 0) ≡ left = omega arith in
    let places : length fs + left ≡ 7 = omega (arith, h.few) in
    let powers : 10 ^ length fs * 10 ^ left ≡ 10000000 = sym (pow-add 10 (length fs) left) ∙ ap (λ k. 10 ^ k) places in
    let front : whole * 10 ^ length fs * 10 ^ left ≡ whole * 10000000 = omega (arith, ap (λ k. whole * k) powers) in
    scaled_up (digits_value 10 (ws ++ fs)) 7 (length fs + 0) (omega (arith, h.few))
    ∙ ap (λ k. digits_value 10 (ws ++ fs) * 10 ^ k) same
    ∙ ap (λ k. k * 10 ^ left) (digits_value-append ws fs)
    ∙ ap (λ k. (k * 10 ^ length fs + digits_value 10 fs) * 10 ^ left) is
    ∙ omega (arith, front, h.value)

whole_first : (ds : List ℕ) → 48 < get_or ds 0 0 → is_whole ds ≡ true
whole_first [] h = absurd (omega arith)
whole_first (d ∷ ds) h = let other : d ≡ 48 → ⊥ = λ e. omega arith in rw (ne_eqb d 48 other) refl

is_whole_decimal : (n : ℕ) → n < 2 ^ 64 → is_whole (decimal n) ≡ true
is_whole_decimal n small =
    elim (cases_lt 0 n) [
      | inl some ↦ whole_first (decimal n) (first_decimal n some small)
      | inr none ↦
          let is : n ≡ 0 = omega arith in
          subst (λ k. is_whole (decimal k) ≡ true) (sym is) (ap is_whole (decimal_digit 0 (omega arith)))
    ]

fraction_is : (rest : ℕ) → fraction rest ≡ point (decimals 7 rest)
fraction_is rest =
    elim (cases_lt 0 rest) [
      | inl some ↦
          let digits_are = decimals-suc 6 rest some in
          ap (λ b. cond b [] (46 ∷ decimals 7 rest)) (ne_eqb rest 0 (λ e. omega arith)) ∙ ap (λ ds. 46 ∷ ds) digits_are ∙ sym (ap point digits_are)
      | inr none ↦
          let is : rest ≡ 0 = omega arith in
          subst (λ k. fraction k ≡ point (decimals 7 k)) (sym is) (sym (ap point (decimals-none 7)))
    ]

-- the digits of the whole degrees
abbrev whole_of : ℕ → List ℕ
whole_of n = decimal (n / 10000000)

abbrev decimals_of : ℕ → List ℕ
decimals_of n = decimals 7 (n % 10000000)

printed_is : (n : ℕ) → unsigned_degrees n ≡ whole_of n ++ point (decimals_of n)
printed_is n = ap (λ rest. whole_of n ++ rest) (fraction_is (n % 10000000))

decimals_of_are : (n : ℕ) → AreDecimals 7 (n % 10000000) (decimals_of n)
decimals_of_are n = decimals_are 7 (n % 10000000) (mod_below n 10000000 (omega arith))

whole_below : (n : ℕ) → n ≤ 1800000000 → n / 10000000 < 1000
whole_below n few = omega arith

point_len : (fs : List ℕ) → length (point fs) ≤ 1 + length fs
point_len [] = omega arith
point_len (f ∷ fs) = omega arith

minus_len : (negative : Bool) (s : List ℕ) → length (with_minus negative s) ≤ 1 + length s
minus_len true s = omega arith
minus_len false s = omega arith

printed_len : (negative : Bool) (n : ℕ) → n ≤ 1800000000 → length (with_minus negative (whole_of n ++ point (decimals_of n))) ≤ 64
printed_len negative n few =
    let below = whole_below n few in
    let wide : n / 10000000 < 2 ^ 64 = omega (arith, below) in
    omega (
      arith,
      minus_len negative (whole_of n ++ point (decimals_of n)),
      length-append {A = ℕ} (whole_of n) (point (decimals_of n)),
      point_len (decimals_of n),
      (decimals_of_are n).few,
      length-decimal-le 3 (n / 10000000) (omega arith) (omega (arith, below)) wide,
    )

abbrev ranged : Parts → Result ℤ Fault
ranged n = in_range n.negative (size_of n)

units_from : (s : List ℕ) (n : Parts) (size : ℕ) → number_of s ≡ Some n → length s ≤ 64 → length n.exponent ≡ 0 → size_of n ≡ size → size ≤ 1800000000 → units_of s ≡ Ok (signed n.negative size)
unfolding units_of
units_from s n size is short none size_is few =
    let first = le-leb (length s) 64 short in
    let second = le-leb (length n.exponent) 3 (omega arith) in
    ap (λ o. short_number (length s) o >>= ranged) is
    ∙ ap (λ b. cond (b && nat_le (length n.exponent) 3) (Ok n) (Err bad_number) >>= ranged) first
    ∙ ap (λ b. cond b (Ok n) (Err bad_number) >>= ranged) second
    ∙ ap (in_range n.negative) size_is
    ∙ ap (λ b. cond b (Ok (signed n.negative size)) (Err out_of_range)) (le-leb size 1800000000 few)

units_of-written : (negative : Bool) (n : ℕ) → n ≤ 1800000000 → units_of (with_minus negative (unsigned_degrees n)) ≡ Ok (signed negative n)
units_of-written negative n few =
    let wide : n / 10000000 < 2 ^ 64 = omega (arith, whole_below n few) in
    let numeral = decimal_is_IsNumeral (n / 10000000) wide in
    let fine = decimals_of_are n in
    let parts = plain_parts negative (whole_of n) (decimals_of n) in
    let size : size_of parts ≡ n = size_of-written negative (whole_of n) (decimals_of n) (n / 10000000) (n % 10000000) numeral.1 fine ∙ omega arith in
    ap (λ t. units_of (with_minus negative t)) (printed_is n)
    ∙ units_from (with_minus negative (whole_of n ++ point (decimals_of n))) parts n (number_of-written negative (whole_of n) (decimals_of n) numeral.0.1 (is_whole_decimal (n / 10000000) wide) fine.all) (printed_len negative n few) refl size few

-- what is printed of a coordinate is read as that coordinate
pub units_of-printed : (units : ℤ) → negsuc 1799999999 ≤ℤ units → units ≤ℤ pos 1800000000 → units_of (printed_degrees units) ≡ Ok units
units_of-printed (pos n) low high = units_of-written false n (omega (arith, ints))
units_of-printed (negsuc n) low high = units_of-written true (suc n) (omega (arith, ints))

point_ascii : (fs : List ℕ) → AllDigits 10 fs → IsAscii (point fs)
point_ascii [] h = IsAscii-nil
point_ascii (f ∷ fs) h = IsAscii-cons 46 (f ∷ fs) (omega arith) (IsAscii-from_digits (f ∷ fs) h)

glyph_ascii : (d : ℕ) → d < 10 → digit_glyph false d < 128
glyph_ascii d h = grind (arith, nat_tests)

cond_ascii : (b : Bool) (xs ys : List ℕ) → IsAscii xs → IsAscii ys → IsAscii (cond b xs ys)
cond_ascii true xs ys h k = h
cond_ascii false xs ys h k = k

digits_onto_ascii : (k n : ℕ) (acc : List ℕ) → IsAscii acc → IsAscii (digits_onto k 10 false n acc)
digits_onto_ascii zero n acc h = h
digits_onto_ascii (suc k) n acc h =
    let more = IsAscii-cons (digit_glyph false (n % 10)) acc (glyph_ascii (n % 10) (mod_below n 10 (omega arith))) h in
    cond_ascii (eqb (n / 10) 0) _ _ more (digits_onto_ascii k (n / 10) (digit_glyph false (n % 10) ∷ acc) more)

decimal_ascii : (n : ℕ) → IsAscii (decimal n)
unfolding fmt.digits
decimal_ascii n = digits_onto_ascii 64 n [] IsAscii-nil

written_ascii : (n : ℕ) → IsAscii (unsigned_degrees n)
written_ascii n =
    subst IsAscii (sym (printed_is n)) (IsAscii-append (whole_of n) (point (decimals_of n)) (decimal_ascii (n / 10000000)) (point_ascii (decimals_of n) (decimals_of_are n).all))

pub IsAscii-printed : (units : ℤ) → IsAscii (printed_degrees units)
IsAscii-printed (pos n) = written_ascii n
IsAscii-printed (negsuc n) = IsAscii-cons 45 (unsigned_degrees (suc n)) (omega arith) (written_ascii (suc n))
