-- Plain whole numbers, by their digits.
use Rattle.std.proofs.Common.{◌≡◌, ◌≢◌, ℕ, zero, suc, ◌^◌, ◌<◌, ◌≤◌, ℤ, pos, negsuc, neg_ℤ, ◌-ℤ◌, to_z, of_z, w64, List, [], ◌∷◌, length, get_or, slice_index, false, cond, Some, option_map, option_and_then, Result, Ok, Err, refl, sym, ap, subst, ◌∙◌, arith, lt-ltb}
use Rattle.std.proofs.lemmas.Fmt.{decimal-digits_value}
use Rattle.std.proofs.lemmas.Str.Parse.{IsNumeralModel, parse_plain, digits_value_short}
use Rattle.std.specs.Fmt.{decimal}
use Rattle.std.proofs.lemmas.Int.{ints, to_z_pos}
use Rattle.std.specs.Result.{OkIff}
use Rattle.std.specs.Str.Parse.{AllDigits, ParsesUnsigned, digits_value}
use Rattle.serde_json.proofs.Numbers.{number_of-decimal, number_of-negative}
use Rattle.mds_text.specs.Fault.{bad_json}
use Rattle.mds_text.specs.Quoting.{is_quoted}
use Rattle.mds_text.specs.Reading.{plain_int}
use Rattle.mds_text.specs.Tree.{int, text}
use Rattle.mds_json.specs.Direct.{ok_of, tree_number, whole_number}

own : IsNumeralModel (AllDigits 10) (digits_value 10)
own = record { to = λ ds h. h; from = λ ds h. h; same = λ ds h. refl }

-- at most 18 digits without a leading zero are how their number is printed
written : (ds : List ℕ) → AllDigits 10 ds → 0 < length ds → (get_or ds 0 0 ≡ 48 → length ds ≡ 1) → length ds ≤ 18 → (ds ≡ decimal (digits_value 10 ds)) × (digits_value 10 ds < 10 ^ 18)
written ds h some alone few =
    let below = digits_value_short own ds 18 h few in
    (sym (decimal-digits_value own ds h some alone (omega (arith, below))), below)

-- digits that begin with no zero, as they are parsed
pub size_is : {E : Type 0} (bs : List ℕ) (r : Result ℕ E) (size : ℕ) → ParsesUnsigned 64 10 bs r → r ≡ Ok size → get_or bs 0 0 ≢ 43 → get_or bs 0 0 ≢ 48 → length bs ≤ 18
    → (bs ≡ decimal size) × (size < 10 ^ 18)
size_is bs r size h is plus zero_first few =
    let fact : ((AllDigits 10 bs) × (0 < length bs) × (digits_value 10 bs < 2 ^ 64)) × (size ≡ digits_value 10 bs) =
    subst (λ q. OkIff q (AllDigits 10 bs × (0 < length bs) × (digits_value 10 bs < 2 ^ 64)) (digits_value 10 bs)) is (parse_plain own 64 bs r h plus) in
    let found = written bs fact.0.0 fact.0.1 (λ e. absurd (zero_first e)) few in
    (found.0 ∙ ap decimal (sym fact.1), subst (λ n. n < 10 ^ 18) (sym fact.1) found.1)

-- a zero alone
pub zero_is : (bs : List ℕ) → slice_index bs 0 ≡ 48 → length bs ≡ 1 → bs ≡ decimal 0
zero_is [] first one = absurd (omega (arith, one))
zero_is (b ∷ []) first one = ap (λ c. c ∷ []) first ∙ (written (48 ∷ []) (omega arith, tt) (omega arith) (λ e. refl) (omega arith)).0
zero_is (b ∷ c ∷ bs) first one = absurd (omega (arith, one))

pub minus_is : (n : ℕ) → n < 10 ^ 18 → neg_ℤ (pos n) ≡ to_z w64 (of_z w64 (pos 0 -ℤ to_z w64 n))
minus_is n h = omega (arith, ints, h)

pub plus_is : (n : ℕ) → n < 10 ^ 18 → pos n ≡ to_z w64 n
plus_is n h = sym (to_z_pos w64 n (omega (arith, h)))

-- zero or a positive number
pub whole_number-decimal : (n : ℕ) → n < 10 ^ 18 → whole_number (decimal n) ≡ Some (pos n)
whole_number-decimal n h =
    ap (option_and_then (λ m. ok_of (plain_int m))) (number_of-decimal n (omega (arith, h)))
    ∙ ap (λ b. ok_of (cond b (Ok (pos n)) (Err bad_json))) (lt-ltb n (10 ^ 18) h)

-- a negative number
pub whole_number-minus : (n : ℕ) → n ≢ 0 → n < 10 ^ 18 → whole_number (45 ∷ decimal n) ≡ Some (neg_ℤ (pos n))
whole_number-minus zero some h = absurd (some refl)
whole_number-minus (suc n) some h =
    ap (option_and_then (λ m. ok_of (plain_int m))) (number_of-negative n (omega (arith, h)))
    ∙ ap (λ b. ok_of (cond b (Ok (negsuc n)) (Err bad_json))) (lt-ltb (suc n) (10 ^ 18) h)

-- a number that isn't quoted
pub tree_number-whole : (s : List ℕ) (z : ℤ) → is_quoted s ≡ false → whole_number s ≡ Some z → tree_number s ≡ Some (int z)
tree_number-whole s z plain is = ap (λ b. cond b (Some (text s)) (option_map int (whole_number s))) plain ∙ ap (option_map int) is
