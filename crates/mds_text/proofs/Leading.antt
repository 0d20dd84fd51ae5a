-- The leading digits of a number.
use Rattle.std.proofs.Common.{◌≡◌, ℕ, zero, suc, ◌+◌, ◌-◌, ◌*◌, ◌/◌, ◌^◌, ◌<◌, ◌≤◌, List, ◌++◌, true, false, cond, nat_lt, nat_le, Some, None, length, take, get_or, refl, sym, ap, ◌∙◌, inl, inr, ◌⊎◌, arith, length-append}
use Rattle.std.proofs.Math.Nat.{pow-suc}
use Rattle.std.proofs.Math.ListN.{get_or-append}
use Rattle.std.proofs.Math.Seq.{get_or-append_right}
use Rattle.std.proofs.lemmas.Bool.{le-leb, cases_lt}
use Rattle.std.proofs.lemmas.Bool.Decides.{nat_tests}
use Rattle.std.proofs.lemmas.Int.Digits.{digits_value_more}
use Rattle.std.proofs.lemmas.Option.{none-some, same_Some}
use Rattle.std.proofs.lemmas.Str.Parse.{digit_at as digit_in}
use Rattle.std.specs.Char.{digit_value}
use Rattle.std.specs.Str.Parse.{AllDigits, digits_value}
use Rattle.mds_text.specs.Numbers.{digit_at, leading, up_to_limit}

pub digit_value-is : (c : ℕ) → 48 ≤ c → c ≤ 57 → digit_value c ≡ c - 48
digit_value-is c low high = grind (arith, nat_tests)

-- a digit's value, by its place
pub digit_is : (ds : List ℕ) (i c : ℕ) → AllDigits 10 ds → i < length ds → c ≡ get_or ds i 0 - 48 → (c ≡ digit_value (get_or ds i 0)) × (c < 10)
digit_is ds i c all within is =
    let range = digit_in ds i all within in
    let value = digit_value-is (get_or ds i 0) range.0 range.1 in (omega arith, omega arith)

inside : (n i : ℕ) → i < n → nat_lt i n ≡ true
inside n i h = grind (arith, nat_tests)

outside : (n i : ℕ) → n ≤ i → nat_lt i n ≡ false
outside n i h = grind (arith, nat_tests)

pub digit_at-inside : (ds : List ℕ) (i : ℕ) → i < length ds → digit_at ds i ≡ digit_value (get_or ds i 0)
digit_at-inside ds i h = ap (λ b. cond b (digit_value (get_or ds i 0)) 0) (inside (length ds) i h)

pub digit_at-outside : (ds : List ℕ) (i : ℕ) → length ds ≤ i → digit_at ds i ≡ 0
digit_at-outside ds i h = ap (λ b. cond b (digit_value (get_or ds i 0)) 0) (outside (length ds) i h)

pub digit_at-whole : (xs ys : List ℕ) (i : ℕ) → i < length xs → digit_at (xs ++ ys) i ≡ digit_value (get_or xs i 0)
digit_at-whole xs ys i h =
    digit_at-inside (xs ++ ys) i (omega (arith, length-append {A = ℕ} xs ys)) ∙ ap digit_value (get_or-append xs ys 0 i h)

pub digit_at-fraction : (xs ys : List ℕ) (i : ℕ) → length xs ≤ i → i - length xs < length ys → digit_at (xs ++ ys) i ≡ digit_value (get_or ys (i - length xs) 0)
digit_at-fraction xs ys i past h =
    digit_at-inside (xs ++ ys) i (omega (arith, length-append {A = ℕ} xs ys)) ∙ ap digit_value (get_or-append_right xs ys i 0 past)

pub digit_at-end : (xs ys : List ℕ) (i : ℕ) → length xs ≤ i → length ys ≤ i - length xs → digit_at (xs ++ ys) i ≡ 0
digit_at-end xs ys i past h = digit_at-outside (xs ++ ys) i (omega (arith, length-append {A = ℕ} xs ys))

pub leading-suc : (ds : List ℕ) (i : ℕ) → leading ds (i + 1) ≡ leading ds i * 10 + digit_at ds i
unfolding leading
leading-suc ds i = let next : i + 1 ≡ suc i = omega arith in ap (leading ds) next

pub leading-zero : (ds : List ℕ) → leading ds 0 ≡ 0
unfolding leading
leading-zero ds = refl

-- more digits never give a smaller number
leading-grows : (ds : List ℕ) (i j : ℕ) → leading ds i ≤ leading ds (i + j)
leading-grows ds i zero = omega (arith, ap (leading ds) (let same : i + 0 ≡ i = omega arith in same))
leading-grows ds i (suc j) =
    let more = leading-grows ds i j in
    let next : i + suc j ≡ (i + j) + 1 = omega arith in
    omega (arith, more, ap (leading ds) next, leading-suc ds (i + j))

over : (n most : ℕ) → most < n → up_to_limit most n ≡ None
over n most h = let no : nat_le n most ≡ false = grind (arith, nat_tests) in ap (λ b. cond b (Some n) None) no

pub up_to_limit-over : (ds : List ℕ) (i n most : ℕ) → i ≤ n → most < leading ds i → up_to_limit most (leading ds n) ≡ None
up_to_limit-over ds i n most before large =
    let rest : i + (n - i) ≡ n = omega arith in
    over (leading ds n) most (omega (arith, leading-grows ds i (n - i), ap (leading ds) rest))

pub up_to_limit-within : (n most : ℕ) → n ≤ most → up_to_limit most n ≡ Some n
up_to_limit-within n most h = ap (λ b. cond b (Some n) None) (le-leb n most h)

pub leading-turn : (ds : List ℕ) (i value digit : ℕ) → value ≡ leading ds i → digit ≡ digit_at ds i → value * 10 + digit ≡ leading ds (i + 1)
leading-turn ds i value digit before is = omega (arith, before, is, leading-suc ds i)

pub digits_value-turn : (ds : List ℕ) (i value digit : ℕ) → i < length ds → value ≡ digits_value 10 (take i ds) → value < 10 ^ i → digit ≡ digit_value (get_or ds i 0) → digit < 10
    → (value * 10 + digit ≡ digits_value 10 (take (i + 1) ds)) × (value * 10 + digit < 10 ^ (i + 1))
digits_value-turn ds i value digit within before few is small =
    let next : i + 1 ≡ suc i = omega arith in
    (omega (arith, digits_value_more 10 ds i within), omega (arith, ap (λ k. 10 ^ k) next, pow-suc 10 i))

order : (n most : ℕ) → (n ≤ most) ⊎ (most < n)
order n most = elim (cases_lt most n) [ inl many ↦ inr many | inr few ↦ inl few ]

pub up_to_limit-none : (n most : ℕ) → None ≡ up_to_limit most n → most < n
up_to_limit-none n most h =
    elim (order n most) [ inl few ↦ absurd (none-some n (h ∙ up_to_limit-within n most few)) | inr many ↦ many ]

pub up_to_limit-some : (n most t : ℕ) → Some t ≡ up_to_limit most n → (n ≤ most) × (n ≡ t)
up_to_limit-some n most t h =
    elim (order n most) [
      | inl few ↦ (few, sym (same_Some t n (h ∙ up_to_limit-within n most few)))
      | inr many ↦ absurd (none-some t (sym (h ∙ over n most many)))
    ]

-- tenths that round to 180 degrees at most, and tenths that don't
pub rounds_within : (n m t : ℕ) → m ≡ (n + 5) / 10 → Some t ≡ up_to_limit 18000000004 n → Some ((t + 5) / 10) ≡ up_to_limit 1800000000 m
rounds_within n m t is h =
    let found = up_to_limit-some n 18000000004 t h in
    let small : m ≤ 1800000000 = omega (arith, found.0) in
    ap (λ k. Some ((k + 5) / 10)) (sym found.1) ∙ ap Some (sym is) ∙ sym (up_to_limit-within m 1800000000 small)

pub rounds_over : (n m : ℕ) → m ≡ (n + 5) / 10 → None ≡ up_to_limit 18000000004 n → None ≡ up_to_limit 1800000000 m
rounds_over n m is h = let large = up_to_limit-none n 18000000004 h in sym (over m 1800000000 (omega arith))
