-- A number of units, rounded from its leading digits down to the tenths of a unit.
use Rattle.std.proofs.Common.{◌≡◌, ℕ, zero, suc, ◌+◌, ◌-◌, ◌*◌, ◌/◌, ◌%◌, ◌^◌, ◌<◌, ◌≤◌, List, [], ◌∷◌, ◌++◌, cond, false, inl, inr, length, take, drop, refl, sym, ap, subst, ◌∙◌, arith, length-append, length-drop}
use Rattle.std.proofs.Math.Nat.{pow-suc, mul-le-mul_right, pow-le-pow_right, div-eq_of_lt}
use Rattle.std.proofs.Math.Seq.{take-length}
use Rattle.std.proofs.lemmas.Bool.{le-leb, cases_lt}
use Rattle.std.proofs.lemmas.Bool.Decides.{nat_tests}
use Rattle.std.proofs.lemmas.Int.Digits.{digits_value-lt, digits_value_more}
use Rattle.std.proofs.lemmas.List.{take-append-drop}
use Rattle.std.proofs.lemmas.Nat.{div-mul-add, div-add-mod', mod_below, pow-add}
use Rattle.std.specs.Char.{digit_value}
use Rattle.std.specs.Prelude.{nat_le}
use Rattle.std.specs.Str.Parse.{AllDigits, digits_value, digits_value_after}
use Rattle.mds_text.proofs.Decimals.{ten_pos}
use Rattle.mds_text.proofs.Leading.{digit_at-inside, digit_at-outside, leading-suc, leading-zero}
use Rattle.mds_text.specs.Numbers.{leading, places_of, HasDigits}
use Rattle.mds_text.specs.Laws.{dividend, divisor}
use Rattle.mds_text.specs.Numbers.{Parts, all_digits, rounded, scaled, size_of, tens_down, tens_up}

value_after-is : (n : ℕ) (ds : List ℕ) → digits_value_after 10 n ds ≡ n * 10 ^ length ds + digits_value 10 ds
value_after-is n [] = omega arith
value_after-is n (d ∷ ds) =
    let here = value_after-is (n * 10 + digit_value d) ds in
    let alone = value_after-is (0 * 10 + digit_value d) ds in
    omega (arith, here, alone, ap (λ k. n * k) (pow-suc 10 (length ds)))

pub digits_value-cons : (d : ℕ) (ds : List ℕ) → digits_value 10 (d ∷ ds) ≡ digit_value d * 10 ^ length ds + digits_value 10 ds
digits_value-cons d ds = value_after-is (0 * 10 + digit_value d) ds ∙ omega arith

value_after-append : (n : ℕ) (xs ys : List ℕ) → digits_value_after 10 n (xs ++ ys) ≡ digits_value_after 10 (digits_value_after 10 n xs) ys
value_after-append n [] ys = refl
value_after-append n (x ∷ xs) ys = value_after-append (n * 10 + digit_value x) xs ys

pub digits_value-append : (xs ys : List ℕ) → digits_value 10 (xs ++ ys) ≡ digits_value 10 xs * 10 ^ length ys + digits_value 10 ys
digits_value-append xs ys = value_after-append 0 xs ys ∙ value_after-is (digits_value 10 xs) ys

pub AllDigits-append : (xs ys : List ℕ) → AllDigits 10 xs → AllDigits 10 ys → AllDigits 10 (xs ++ ys)
AllDigits-append [] ys h k = k
AllDigits-append (x ∷ xs) ys h k = (h.0, AllDigits-append xs ys h.1 k)

AllDigits-drop : (i : ℕ) (xs : List ℕ) → AllDigits 10 xs → AllDigits 10 (drop i xs)
AllDigits-drop zero xs h = h
AllDigits-drop (suc i) [] h = h
AllDigits-drop (suc i) (x ∷ xs) h = AllDigits-drop i xs h.1

leading-front : (ds : List ℕ) (i : ℕ) → i ≤ length ds → leading ds i ≡ digits_value 10 (take i ds)
leading-front ds zero few = leading-zero ds
leading-front ds (suc i) few =
    let next : suc i ≡ i + 1 = omega arith in
    let within : i < length ds = omega arith in
    let before = leading-front ds i (omega arith) in
    ap (leading ds) next ∙ leading-suc ds i
    ∙ omega (arith, before, digit_at-inside ds i within, digits_value_more 10 ds i within, ap (λ k. digits_value 10 (take k ds)) next)

-- leading digits beyond the last: zeros follow it
leading-pad : (ds : List ℕ) (j : ℕ) → leading ds (length ds + j) ≡ digits_value 10 ds * 10 ^ j
leading-pad ds zero =
    let end : length ds + 0 ≡ length ds = omega arith in
    ap (leading ds) end ∙ leading-front ds (length ds) (omega arith) ∙ ap (digits_value 10) (take-length ds) ∙ omega arith
leading-pad ds (suc j) =
    let next : length ds + suc j ≡ (length ds + j) + 1 = omega arith in
    let before = leading-pad ds j in
    let power : digits_value 10 ds * 10 ^ suc j ≡ digits_value 10 ds * 10 ^ j * 10 = omega (arith, ap (λ k. digits_value 10 ds * k) (pow-suc 10 j)) in
    ap (leading ds) next ∙ leading-suc ds (length ds + j) ∙ omega (arith, before, power, digit_at-outside ds (length ds + j) (omega arith))

-- leading digits without the last `q`
leading-cut : (ds : List ℕ) (q : ℕ) → AllDigits 10 ds → leading ds (length ds - q) ≡ digits_value 10 ds / 10 ^ q
leading-cut ds q all =
    elim (cases_lt (length ds) q) [
      | inl many ↦
          let none : length ds - q ≡ 0 = omega arith in
          let small = digits_value-lt 10 ds all in
          let above : 10 ^ length ds ≤ 10 ^ q = pow-le-pow_right (omega arith) (omega arith) in
          ap (leading ds) none ∙ leading-zero ds ∙ sym (div-eq_of_lt (omega (arith, small, above)))
      | inr few ↦
          let i = length ds - q in
          let behind : length (drop i ds) ≡ q = length-drop i ds ∙ omega arith in
          let split = ap (digits_value 10) (sym (take-append-drop i ds)) ∙ digits_value-append (take i ds) (drop i ds) ∙ ap (λ k. digits_value 10 (take i ds) * 10 ^ k + digits_value 10 (drop i ds)) behind in
          let small = subst (λ k. digits_value 10 (drop i ds) < 10 ^ k) behind (digits_value-lt 10 (drop i ds) (AllDigits-drop i ds all)) in
          leading-front ds i (omega arith) ∙ sym (div-mul-add (digits_value 10 (take i ds)) (10 ^ q) (digits_value 10 (drop i ds)) small) ∙ ap (λ n. n / 10 ^ q) (sym split)
    ]

-- a quotient, rounded from its whole tenths, is the quotient rounded
round_tenths : (m t : ℕ) → 0 < t → (m / t + 5) / 10 ≡ rounded m (t * 10)
round_tenths m t some =
    let quotient = m / t in
    let rest = m % t in
    let a = (quotient + 5) / 10 in
    let b = (quotient + 5) % 10 in
    let split : quotient * t + rest ≡ m = div-add-mod' m t in
    let below : rest < t = mod_below m t some in
    let tens : a * 10 + b ≡ quotient + 5 = div-add-mod' (quotient + 5) 10 in
    let ones : b ≤ 9 = omega (arith, mod_below (quotient + 5) 10 (omega arith)) in
    let scaled_tens = ap (λ k. k * t) tens in
    let few = mul-le-mul_right t ones in
    let parts : 2 * m + t * 10 ≡ a * (2 * (t * 10)) + (2 * (b * t) + 2 * rest) = omega (arith, split, scaled_tens) in
    let small : 2 * (b * t) + 2 * rest < 2 * (t * 10) = omega (arith, few, below) in
    sym (div-mul-add a (2 * (t * 10)) (2 * (b * t) + 2 * rest) small) ∙ ap (λ n. n / (2 * (t * 10))) (sym parts)

pub scaled_up : (m up down : ℕ) → down ≤ up → scaled m up down ≡ m * 10 ^ (up - down)
scaled_up m up down h = ap (λ b. cond b (m * 10 ^ (up - down)) (rounded m (10 ^ (down - up)))) (le-leb down up h)

scaled_down : (m up down : ℕ) → up < down → scaled m up down ≡ rounded m (10 ^ (down - up))
scaled_down m up down h =
    let no : nat_le down up ≡ false = grind (arith, nat_tests) in
    ap (λ b. cond b (m * 10 ^ (up - down)) (rounded m (10 ^ (down - up)))) no

tenths : (ds : List ℕ) (whole fraction up low : ℕ) → AllDigits 10 ds → length ds ≡ whole + fraction → scaled (digits_value 10 ds) (7 + up) (fraction + low) ≡ (leading ds (whole + 8 + up - low) + 5) / 10
tenths ds whole fraction up low all len =
    elim (cases_lt (7 + up) (fraction + low)) [
      | inl less ↦
          let q = fraction + low - (8 + up) in
          let power : fraction + low - (7 + up) ≡ suc q = omega arith in
          let places : whole + 8 + up - low ≡ length ds - q = omega arith in
          scaled_down (digits_value 10 ds) (7 + up) (fraction + low) less
          ∙ ap (λ k. rounded (digits_value 10 ds) (10 ^ k)) power
          ∙ ap (rounded (digits_value 10 ds)) (pow-suc 10 q)
          ∙ sym (round_tenths (digits_value 10 ds) (10 ^ q) (ten_pos q))
          ∙ ap (λ n. (n + 5) / 10) (sym (ap (leading ds) places ∙ leading-cut ds q all))
      | inr more ↦
          let j = 7 + up - (fraction + low) in
          let places : whole + 8 + up - low ≡ length ds + suc j = omega arith in
          let value = digits_value 10 ds * 10 ^ j in
          let ten : digits_value 10 ds * 10 ^ suc j ≡ value * 10 = omega (arith, ap (λ k. digits_value 10 ds * k) (pow-suc 10 j)) in
          scaled_up (digits_value 10 ds) (7 + up) (fraction + low) more
          ∙ sym (div-mul-add value 10 5 (omega arith))
          ∙ ap (λ n. (n + 5) / 10) (sym (ap (leading ds) places ∙ leading-pad ds (suc j) ∙ ten))
    ]

pub size_of-leading : (n : Parts) → HasDigits n → size_of n ≡ (leading (n.whole ++ n.fraction) (places_of n) + 5) / 10
unfolding size_of
size_of-leading n digits =
    tenths (n.whole ++ n.fraction) (length n.whole) (length n.fraction) (tens_up n) (cond n.lowers (digits_value 10 n.exponent) 0)
    (AllDigits-append n.whole n.fraction digits.whole digits.fraction) (length-append n.whole n.fraction)

-- the whole number of units nearest to m / d: times d, it is less than d / 2 below m, and at most d / 2 above
abbrev IsNearest : ℕ → ℕ → ℕ → Type 0
IsNearest units m d = (2 * (units * d) ≤ 2 * m + d) × (2 * m < 2 * (units * d) + d)

rounded-nearest : (m d : ℕ) → 0 < d → IsNearest (rounded m d) m d
rounded-nearest m d some =
    let whole = (2 * m + d) / (2 * d) in
    let split : whole * (2 * d) + (2 * m + d) % (2 * d) ≡ 2 * m + d = div-add-mod' (2 * m + d) (2 * d) in
    let below : (2 * m + d) % (2 * d) < 2 * d = mod_below (2 * m + d) (2 * d) (omega (arith, some)) in
    (omega (arith, split), omega (arith, split, below))

-- the same where m and d are multiplied by the same number
nearest-times : (units m d t : ℕ) → 0 < t → IsNearest units m d → IsNearest units (m * t) (d * t)
nearest-times units m d t some near =
    let above = mul-le-mul_right t near.0 in
    let under : suc (2 * m) ≤ 2 * (units * d) + d = omega (arith, near.1) in
    let below = mul-le-mul_right t under in
    (omega (arith, above), omega (arith, below, some))

scaled-nearest : (m up down : ℕ) → IsNearest (scaled m up down) (m * 10 ^ up) (10 ^ down)
scaled-nearest m up down =
    elim (cases_lt up down) [
      | inl less ↦
          let gap = down - up in
          let sum : down ≡ gap + up = omega arith in
          let power : 10 ^ gap * 10 ^ up ≡ 10 ^ down = sym (ap (λ k. 10 ^ k) sum ∙ pow-add 10 gap up) in
          let near = nearest-times (rounded m (10 ^ gap)) m (10 ^ gap) (10 ^ up) (ten_pos up) (rounded-nearest m (10 ^ gap) (ten_pos gap)) in
          subst (λ u. IsNearest u (m * 10 ^ up) (10 ^ down)) (sym (scaled_down m up down less)) (subst (λ d. IsNearest (rounded m (10 ^ gap)) (m * 10 ^ up) d) power near)
      | inr more ↦
          let gap = up - down in
          let sum : up ≡ gap + down = omega arith in
          let power : 10 ^ up ≡ 10 ^ gap * 10 ^ down = ap (λ k. 10 ^ k) sum ∙ pow-add 10 gap down in
          let exact : m * 10 ^ gap * 10 ^ down ≡ m * 10 ^ up = omega (arith, ap (λ k. m * k) power) in
          subst (λ u. IsNearest u (m * 10 ^ up) (10 ^ down)) (sym (scaled_up m up down more)) (omega (arith, exact), omega (arith, exact, ten_pos down))
    ]

pub size_of-nearest : (n : Parts) → IsNearest (size_of n) (dividend n) (divisor n)
unfolding size_of
size_of-nearest n = scaled-nearest (all_digits n) (7 + tens_up n) (tens_down n)
