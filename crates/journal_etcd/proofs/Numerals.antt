-- Digits that are read are the number that was written.
use Rattle.std.proofs.Common.{◌≡◌, ◌≢◌, ℕ, ◌+◌, ◌^◌, ◌<◌, ◌&&◌, Bool, true, false, cond, ltb, List, [], ◌∷◌, ◌++◌, length, get_or, take, drop, position, Option, Some, None, Result, Ok, Err, refl, sym, ap, ◌∙◌, append_assoc, length-append, lt-ltb, arith, rules}
use Rattle.std.proofs.lemmas.Bool.{and_from, and_left, and_parts, and_right, cond-true, cond-false, false_from_ne_true, ltb-true, ne_eqb}
use Rattle.std.proofs.lemmas.Fmt.{decimal_nonempty, digits_decimal, digits_value-decimal}
use Rattle.std.proofs.lemmas.List.{drop_at, get_or_append_left, get_or_at, length_push, take_at}
use Rattle.std.proofs.lemmas.List.Sums.{position_or_len_is}
use Rattle.std.proofs.lemmas.Result.{OkIff-at_ok, OkIff-at_err}
use Rattle.std.proofs.lemmas.Str.Parse.{IsNumeralModel, numerals_by_value, not_in_digits, parse_digits}
use Rattle.std.specs.Fmt.{decimal}
use Rattle.std.specs.List.{position_or_len}
use Rattle.std.specs.Str.Parse.{ParsesUnsigned, digits_value}
use Rattle.journal_etcd.specs.declared.fault.AnswerFault.{AnswerFault}
use Rattle.journal_etcd.specs.declared.fault.AnswerFault.TheVariants.{BadNumber}
use Rattle.journal_etcd.specs.Reading.{are_digits, is_number, is_space, number_at, number_before, number_of, with_rest}
use Rattle.journal_etcd.specs.Values.{number_text}

own : IsNumeralModel (λ ds. are_digits ds ≡ true) (digits_value 10)
own = numerals_by_value (λ ds. are_digits ds ≡ true) (search rules)

abbrev done : ℕ → Result ℕ AnswerFault
done n = Ok n

abbrev refused : Result ℕ AnswerFault
refused = Err BadNumber

is_number-from : (text : List ℕ) → 0 < length text → are_digits text ≡ true → digits_value 10 text < 2 ^ 64 → is_number text ≡ true
is_number-from text some digits below = and_from (ltb 0 (length text)) (are_digits text && ltb (digits_value 10 text) (2 ^ 64)) (lt-ltb 0 (length text) some)
    (and_from (are_digits text) (ltb (digits_value 10 text) (2 ^ 64)) digits (lt-ltb (digits_value 10 text) (2 ^ 64) below))

number_of-yes : (text : List ℕ) → is_number text ≡ true → number_of text ≡ done (digits_value 10 text)
unfolding number_of
number_of-yes text is = cond-true (is_number text) (done (digits_value 10 text)) refused is

number_of-no : (text : List ℕ) → is_number text ≡ false → number_of text ≡ refused
unfolding number_of
number_of-no text is = cond-false (is_number text) (done (digits_value 10 text)) refused is

-- digits that were parsed
pub number_of-parsed : {E : Type 0} (text : List ℕ) (r : Result ℕ E) (n : ℕ) → ParsesUnsigned 64 10 text r → r ≡ Ok n → are_digits text ≡ true → number_of text ≡ Ok n
number_of-parsed text r n parses is digits =
    let found : ((0 < length text) × (digits_value 10 text < 2 ^ 64)) × (n ≡ digits_value 10 text) =
    OkIff-at_ok r ((0 < length text) × (digits_value 10 text < 2 ^ 64)) (digits_value 10 text) n (parse_digits own 64 text r parses digits) is in
    number_of-yes text (is_number-from text found.0.0 digits found.0.1) ∙ ap done (sym found.1)

-- none, or more than 64 bits have
pub number_of-failed : {E : Type 0} {e : E} (text : List ℕ) (r : Result ℕ E) → ParsesUnsigned 64 10 text r → r ≡ Err e → are_digits text ≡ true → number_of text ≡ Err BadNumber
number_of-failed {e = e} text r parses is digits =
    let fails : ((0 < length text) × (digits_value 10 text < 2 ^ 64)) → ⊥ =
    OkIff-at_err r ((0 < length text) × (digits_value 10 text < 2 ^ 64)) (digits_value 10 text) e (parse_digits own 64 text r parses digits) is in
    number_of-no text (false_from_ne_true (is_number text) (λ (all : is_number text ≡ true).
    let parts = and_parts (ltb 0 (length text)) (are_digits text && ltb (digits_value 10 text) (2 ^ 64)) all in
    let last = and_parts (are_digits text) (ltb (digits_value 10 text) (2 ^ 64)) parts.1 in
    fails (ltb-true 0 (length text) parts.0, ltb-true (digits_value 10 text) (2 ^ 64) last.1)))

-- other bytes
pub number_of-other : (text : List ℕ) → are_digits text ≡ false → number_of text ≡ Err BadNumber
number_of-other text other =
    number_of-no text (and_right (ltb 0 (length text)) (are_digits text && ltb (digits_value 10 text) (2 ^ 64)) (and_left (are_digits text) (ltb (digits_value 10 text) (2 ^ 64)) other))

-- what was written
pub number_of-decimal : (n : ℕ) → n < 2 ^ 64 → number_of (decimal n) ≡ Ok n
number_of-decimal n fits =
    let value : digits_value 10 (decimal n) ≡ n = digits_value-decimal own n fits in
    let below : digits_value 10 (decimal n) < 2 ^ 64 = rw value fits in
    number_of-yes (decimal n) (is_number-from (decimal n) (decimal_nonempty n fits) (digits_decimal own n fits) below) ∙ ap done value

-- ---- with a space behind it

digits_lack : (n k : ℕ) → n < 2 ^ 64 → k < length (decimal n) → get_or (decimal n) k 0 ≢ 32
digits_lack n k fits lt = not_in_digits own (decimal n) 32 (digits_decimal own n fits) (search rules) k lt

space_place : (n : ℕ) (rest : List ℕ) → n < 2 ^ 64 → position_or_len is_space (decimal n ++ 32 ∷ rest) ≡ length (decimal n)
space_place n rest fits =
    position_or_len_is is_space (decimal n ++ 32 ∷ rest) (length (decimal n)) 0 (omega (arith, length-append (decimal n) (32 ∷ rest)))
    (λ k lt. rw (get_or_append_left (decimal n) (32 ∷ rest) 0 k lt) (ne_eqb (get_or (decimal n) k 0) 32 (digits_lack n k fits lt)))
    (λ lt. ap is_space (get_or_at (decimal n) 32 rest 0 (length (decimal n)) refl))

space_found : (n : ℕ) (rest : List ℕ) → n < 2 ^ 64 → position is_space (decimal n ++ 32 ∷ rest) ≡ Some (length (decimal n))
space_found n rest fits =
    let long : length (decimal n) < length (decimal n ++ 32 ∷ rest) = omega (arith, length-append (decimal n) (32 ∷ rest)) in
    rw (space_place n rest fits) (cond-true (ltb (length (decimal n)) (length (decimal n ++ 32 ∷ rest))) (Some (length (decimal n))) None (lt-ltb (length (decimal n)) (length (decimal n ++ 32 ∷ rest)) long))

behind_space : (digits rest : List ℕ) → drop (length digits + 1) (digits ++ 32 ∷ rest) ≡ rest
behind_space digits rest =
    ap (λ (xs : List ℕ). drop (length digits + 1) xs) (sym (append_assoc digits (32 ∷ []) rest)) ∙ drop_at (digits ++ 32 ∷ []) rest (length digits + 1) (length_push digits 32)

-- the number and what stands behind it
pub number_again : (n : ℕ) (rest : List ℕ) → n < 2 ^ 64 → number_at (number_text n ++ rest) ≡ Ok (n, rest)
unfolding number_at number_text
number_again n rest fits =
    let whole = decimal n ++ 32 ∷ rest in
    ap number_at (append_assoc (decimal n) (32 ∷ []) rest)
    ∙ (ap (λ (o : Option ℕ). number_before o whole) (space_found n rest fits)
    ∙ (ap (with_rest (drop (length (decimal n) + 1) whole)) (ap number_of (take_at (decimal n) (32 ∷ rest) (length (decimal n)) refl) ∙ number_of-decimal n fits)
    ∙ ap (λ (r : List ℕ). with_rest r (done n)) (behind_space (decimal n) rest)))
