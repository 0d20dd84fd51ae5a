-- A number with a point isn't plain.
use Rattle.std.proofs.Common.{◌≡◌, ℕ, zero, suc, ◌+◌, List, [], ◌∷◌, Bool, true, false, cond, eqb, ◌||◌, ◌==◌, length, take, drop, get_or, Option, Some, None, option_and_then, refl, sym, ap, ap₂, ◌∙◌, subst, arith}
use Rattle.std.proofs.lemmas.Bool.{false≢true, eqb-true}
use Rattle.std.proofs.lemmas.Bool.Decides.{nat_tests}
use Rattle.std.proofs.lemmas.List.Folds.{length-prefix_len}
use Rattle.std.specs.List.{prefix_len}
use Rattle.std.specs.Char.{is_ascii_digit}
use Rattle.json.specs.Word.{after_digits, after_minus, after_sign, after_whole, after_fraction, after_exponent, after_number}
use Rattle.json.specs.Print.{IsNumber}
use Rattle.mds_text.specs.Numbers.{Parts, begins_with, behind_digits, behind_minus, behind_sign, digits, digits_at, exponent_at, has_exponent, is_whole, is_lowering, number_of}
use Rattle.mds_text.specs.Quoting.{is_decimal, is_quoted}

turned : (a b : ℕ) → (a == b) ≡ (b == a)
turned a b = grind (arith, nat_tests)

minus_is : (s : List ℕ) → after_minus s ≡ behind_minus s
minus_is [] = refl
minus_is (c ∷ s) = ap (λ b. cond b s (c ∷ s)) (turned c 45)

sign_is : (s : List ℕ) → after_sign s ≡ behind_sign s
sign_is [] = refl
sign_is (c ∷ s) = ap₂ (λ a b. cond (a || b) s (c ∷ s)) (turned c 45) (turned c 43)

-- ---- digits

some_of : (none : Bool) (n : ℕ) (q : List ℕ) (f : List ℕ → Option (List ℕ)) → option_and_then f (cond none None (Some (drop n q))) ≡ Some [] → (none ≡ false) × (f (drop n q) ≡ Some [])
some_of true n q f h = absurd (cc)
some_of false n q f h = (refl, h)

some_digits : (q : List ℕ) (f : List ℕ → Option (List ℕ)) → option_and_then f (after_digits q) ≡ Some [] → (eqb (length (digits q)) 0 ≡ false) × (f (behind_digits q) ≡ Some [])
some_digits q f h =
    let found = some_of (prefix_len is_ascii_digit q == 0) (prefix_len is_ascii_digit q) q f h in
    (ap (λ n. eqb n 0) (length-prefix_len is_ascii_digit q) ∙ found.0, found.1)

-- ---- the exponent

abbrev held : Option (List ℕ) → List ℕ
held None = []
held (Some r) = r

alone : (o : Option (List ℕ)) → o ≡ option_and_then Some o
alone None = refl
alone (Some r) = refl

record Ends (o : Option (List ℕ × List ℕ)) : Type 0 where
  exponent : List ℕ
  is : o ≡ Some (exponent, [])

digits_end : (q : List ℕ) → after_digits q ≡ Some [] → Ends (digits_at q)
digits_end q h =
    let found = some_digits q Some (sym (alone (after_digits q)) ∙ h) in
    record { exponent = digits q; is = ap (λ b. cond b None (Some (digits q, behind_digits q))) found.0 ∙ ap (λ r. Some (digits q, held r)) found.1 }

exponent_end : (b : Bool) (x : ℕ) (v : List ℕ) → cond b (after_digits (after_sign v)) (Some (x ∷ v)) ≡ Some [] → Ends (cond b (digits_at (behind_sign v)) (Some ([], x ∷ v)))
exponent_end true x v h = digits_end (behind_sign v) (ap after_digits (sym (sign_is v)) ∙ h)
exponent_end false x v h = absurd (cc)

exponent_ends : (u : List ℕ) → after_exponent u ≡ Some [] → Ends (exponent_at u)
exponent_ends [] h = record { exponent = []; is = refl }
exponent_ends (x ∷ v) h =
    let same : has_exponent (x ∷ v) ≡ ((x == 101) || (x == 69)) = ap₂ (λ a b. a || b) (turned 101 x) (turned 69 x) in
    subst Ends (ap (λ b. cond b (digits_at (behind_sign v)) (Some ([], x ∷ v))) (sym same)) (exponent_end ((x == 101) || (x == 69)) x v h)

-- ---- the fraction

fraction_begins : (r : List ℕ) → begins_with 46 r ≡ true → option_and_then after_exponent (after_fraction r) ≡ Some [] → option_and_then after_exponent (after_digits (drop 1 r)) ≡ Some []
fraction_begins [] p h = absurd (false≢true p)
fraction_begins (x ∷ q) p h = sym (ap (λ b. option_and_then after_exponent (cond b (after_digits q) (Some (x ∷ q)))) (turned x 46 ∙ p)) ∙ h

-- ---- the digits before the point

no_digit : (d : Bool) (e : ℕ) (es : List ℕ) (n : ℕ) → (d ≡ true → ((e == 46) ≡ false) × (((e == 101) || (e == 69)) ≡ false)) → option_and_then after_exponent (after_fraction (e ∷ es)) ≡ Some [] → cond d n 0 ≡ 0
no_digit false e es n f h = refl
no_digit true e es n f h =
    let point = (f refl).0 in
    let power = (f refl).1 in
    let left : Some (e ∷ es) ≡ Some [] =
    sym (ap (λ b. option_and_then after_exponent (cond b (after_digits es) (Some (e ∷ es)))) point ∙ ap (λ b. cond b (after_digits (after_sign es)) (Some (e ∷ es))) power) ∙ h in
    absurd (cc)

digit_else : (e : ℕ) → is_ascii_digit e ≡ true → ((e == 46) ≡ false) × (((e == 101) || (e == 69)) ≡ false)
digit_else e h = (grind (arith, nat_tests), grind (arith, nat_tests))

stops : (ds : List ℕ) → option_and_then after_exponent (after_fraction ds) ≡ Some [] → prefix_len is_ascii_digit ds ≡ 0
stops [] h = refl
stops (e ∷ es) h = no_digit (is_ascii_digit e) e es (1 + prefix_len is_ascii_digit es) (digit_else e) h

record Whole (t : List ℕ) : Type 0 where
  whole : is_whole (digits t) ≡ true
  rest : option_and_then after_exponent (after_fraction (behind_digits t)) ≡ Some []

record WholeAt (k : ℕ) (t : List ℕ) : Type 0 where
  whole : is_whole (take k t) ≡ true
  rest : option_and_then after_exponent (after_fraction (drop k t)) ≡ Some []

whole_zero : (d : ℕ) (ds : List ℕ) → option_and_then after_exponent (after_fraction ds) ≡ Some [] → (d == 48) ≡ true → WholeAt (1 + prefix_len is_ascii_digit ds) (d ∷ ds)
whole_zero d ds h z =
    let k : 1 + prefix_len is_ascii_digit ds ≡ suc 0 = ap (λ n. 1 + n) (stops ds h) in
    subst (λ n. WholeAt n (d ∷ ds)) (sym k) (record { whole = rw z refl; rest = h })

whole_more : (d : ℕ) (ds : List ℕ) (n : ℕ) → option_and_then after_exponent (option_and_then after_fraction (cond (1 + n == 0) None (Some (drop (1 + n) (d ∷ ds))))) ≡ Some [] → (d == 48) ≡ false → WholeAt (1 + n) (d ∷ ds)
whole_more d ds n h z =
    let k : suc n ≡ 1 + n = omega arith in
    let some : (1 + n == 0) ≡ false = grind (arith, nat_tests) in
    record {
      whole = ap (λ m. is_whole (take m (d ∷ ds))) (sym k) ∙ rw z refl;
      rest = sym (ap (λ b. option_and_then after_exponent (option_and_then after_fraction (cond b None (Some (drop (1 + n) (d ∷ ds)))))) some) ∙ h;
    }

whole_at_digit : (b z : Bool) (d : ℕ) (ds : List ℕ) → (z ≡ true → b ≡ true) → (d == 48) ≡ z
    → option_and_then after_exponent (option_and_then after_fraction (cond z (Some ds) (cond (cond b (1 + prefix_len is_ascii_digit ds) 0 == 0) None (Some (drop (cond b (1 + prefix_len is_ascii_digit ds) 0) (d ∷ ds)))))) ≡ Some []
    → WholeAt (cond b (1 + prefix_len is_ascii_digit ds) 0) (d ∷ ds)
whole_at_digit true true d ds f z h = whole_zero d ds h z
whole_at_digit true false d ds f z h = whole_more d ds (prefix_len is_ascii_digit ds) h z
whole_at_digit false true d ds f z h = absurd (false≢true (f refl))
whole_at_digit false false d ds f z h = absurd (cc)

zero_digit : (d : ℕ) → (d == 48) ≡ true → is_ascii_digit d ≡ true
zero_digit d h = ap is_ascii_digit (eqb-true d 48 h)

whole_ends : (t : List ℕ) → option_and_then after_exponent (option_and_then after_fraction (after_whole t)) ≡ Some [] → Whole t
whole_ends [] h = absurd (cc)
whole_ends (d ∷ ds) h =
    let found = whole_at_digit (is_ascii_digit d) (d == 48) d ds (zero_digit d) refl h in
    record { whole = found.whole; rest = found.rest }

-- ---- the number

abbrev parts_at : List ℕ → List ℕ → Parts
parts_at s e =
    record {
      negative = begins_with 45 s;
      whole = digits (behind_minus s);
      fraction = digits (drop 1 (behind_digits (behind_minus s)));
      lowers = is_lowering (behind_digits (drop 1 (behind_digits (behind_minus s))));
      exponent = e;
    }

number_is : (s e : List ℕ) → is_whole (digits (behind_minus s)) ≡ true → begins_with 46 (behind_digits (behind_minus s)) ≡ true
    → eqb (length (digits (drop 1 (behind_digits (behind_minus s))))) 0 ≡ false → exponent_at (behind_digits (drop 1 (behind_digits (behind_minus s)))) ≡ Some (e, [])
    → number_of s ≡ Some (parts_at s e)
unfolding number_of
number_is s e whole point some ends = rw (whole, point, some, ends) refl

valid_number : (s : List ℕ) → IsNumber s → option_and_then after_exponent (option_and_then after_fraction (after_whole (behind_minus s))) ≡ Some []
unfolding after_number
valid_number s h = ap (λ t. option_and_then after_exponent (option_and_then after_fraction (after_whole t))) (sym (minus_is s)) ∙ h

-- a number in which a point stands behind the digits is quoted
quoted_at_point : (s : List ℕ) → IsNumber s → begins_with 46 (behind_digits (behind_minus s)) ≡ true → is_quoted s ≡ true
quoted_at_point s h p =
    let t = behind_minus s in
    let whole = whole_ends t (valid_number s h) in
    let fraction = some_digits (drop 1 (behind_digits t)) after_exponent (fraction_begins (behind_digits t) p whole.rest) in
    let ends = exponent_ends (behind_digits (drop 1 (behind_digits t))) fraction.1 in
    ap is_decimal (number_is s ends.exponent whole.whole p fraction.0 ends.is) ∙ rw fraction.0 refl

-- ---- a number with a point anywhere

abbrev pub pointed : List ℕ → Bool
pointed [] = false
pointed (c ∷ s) = (c == 46) || pointed s

or_true : (a : Bool) → (a || true) ≡ true
or_true true = refl
or_true false = refl

pointed_at : (s : List ℕ) (k : ℕ) → get_or s k 0 ≡ 46 → pointed s ≡ true
pointed_at [] zero h = absurd (cc)
pointed_at [] (suc k) h = absurd (cc)
pointed_at (c ∷ s) zero h = ap (λ d. (d == 46) || pointed s) h
pointed_at (c ∷ s) (suc k) h = ap (λ b. (c == 46) || b) (pointed_at s k h) ∙ or_true (c == 46)

pointed_digit : (d : Bool) (c : ℕ) (s : List ℕ) (n : ℕ) → (d ≡ true → (c == 46) ≡ false) → pointed s ≡ pointed (drop n s) → pointed (c ∷ s) ≡ pointed (drop (cond d (1 + n) 0) (c ∷ s))
pointed_digit false c s n f h = refl
pointed_digit true c s n f h =
    let k : suc n ≡ 1 + n = omega arith in
    ap (λ b. b || pointed s) (f refl) ∙ h ∙ ap (λ m. pointed (drop m (c ∷ s))) k

pointed_digits : (s : List ℕ) → pointed s ≡ pointed (behind_digits s)
pointed_digits [] = refl
pointed_digits (c ∷ s) = pointed_digit (is_ascii_digit c) c s (prefix_len is_ascii_digit s) (λ h. (digit_else c h).0) (pointed_digits s)

pointed_sign : (b : Bool) (c : ℕ) (s : List ℕ) → (b ≡ true → (c == 46) ≡ false) → pointed (c ∷ s) ≡ pointed (cond b s (c ∷ s))
pointed_sign false c s f = refl
pointed_sign true c s f = ap (λ b. b || pointed s) (f refl)

minus_else : (c : ℕ) → (c == 45) ≡ true → (c == 46) ≡ false
minus_else c h = grind (arith, nat_tests)

sign_else : (c : ℕ) → ((c == 45) || (c == 43)) ≡ true → (c == 46) ≡ false
sign_else c h = grind (arith, nat_tests)

power_else : (c : ℕ) → ((c == 101) || (c == 69)) ≡ true → (c == 46) ≡ false
power_else c h = grind (arith, nat_tests)

pointed_behind_minus : (s : List ℕ) → pointed s ≡ pointed (after_minus s)
pointed_behind_minus [] = refl
pointed_behind_minus (c ∷ s) = pointed_sign (c == 45) c s (minus_else c)

pointed_behind_sign : (s : List ℕ) → pointed s ≡ pointed (after_sign s)
pointed_behind_sign [] = refl
pointed_behind_sign (c ∷ s) = pointed_sign ((c == 45) || (c == 43)) c s (sign_else c)

emptied : (r : List ℕ) → Some r ≡ Some [] → pointed r ≡ false
emptied r h = ap (λ o. pointed (held o)) h

power_pointless : (b : Bool) (x : ℕ) (v : List ℕ) → (b ≡ true → (x == 46) ≡ false) → cond b (after_digits (after_sign v)) (Some (x ∷ v)) ≡ Some [] → pointed (x ∷ v) ≡ false
power_pointless false x v f h = absurd (cc)
power_pointless true x v f h =
    let ends = some_digits (after_sign v) Some (sym (alone (after_digits (after_sign v))) ∙ h) in
    ap (λ b. b || pointed v) (f refl) ∙ pointed_behind_sign v ∙ pointed_digits (after_sign v) ∙ emptied (behind_digits (after_sign v)) ends.1

exponent_pointless : (u : List ℕ) → after_exponent u ≡ Some [] → pointed u ≡ false
exponent_pointless [] h = refl
exponent_pointless (x ∷ v) h = power_pointless ((x == 101) || (x == 69)) x v (power_else x) h

fraction_else : (r : List ℕ) → begins_with 46 r ≡ false → option_and_then after_exponent (after_fraction r) ≡ Some [] → pointed r ≡ false
fraction_else [] p h = refl
fraction_else (x ∷ q) p h =
    exponent_pointless (x ∷ q) (sym (ap (λ b. option_and_then after_exponent (cond b (after_digits q) (Some (x ∷ q)))) (turned x 46 ∙ p)) ∙ h)

pointed_behind : (b : Bool) (s : List ℕ) → begins_with 46 (behind_digits (behind_minus s)) ≡ b → IsNumber s → pointed s ≡ true → b ≡ true
pointed_behind true s p h at = refl
pointed_behind false s p h at =
    let t = behind_minus s in
    let whole = whole_ends t (valid_number s h) in
    sym (pointed_behind_minus s ∙ ap pointed (minus_is s) ∙ pointed_digits t ∙ fraction_else (behind_digits t) p whole.rest) ∙ at

-- a number in which a point stands anywhere is quoted
pub quoted_with_point : (s : List ℕ) (k : ℕ) → IsNumber s → get_or s k 0 ≡ 46 → is_quoted s ≡ true
quoted_with_point s k h at =
    quoted_at_point s h (pointed_behind (begins_with 46 (behind_digits (behind_minus s))) s refl h (pointed_at s k at))
