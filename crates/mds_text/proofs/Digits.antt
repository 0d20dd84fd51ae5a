-- The parts of a number consist of digits of its text.
use Rattle.std.proofs.Common.{◌≡◌, ℕ, suc, ◌+◌, ◌<◌, ◌≤◌, List, [], ◌∷◌, true, false, cond, Some, None, eqb, length, take, drop, refl, sym, ap, subst, ◌∙◌, arith, length-drop}
use Rattle.std.proofs.lemmas.Bool.Decides.{nat_tests}
use Rattle.std.proofs.lemmas.List.Sums.{prefix_len-le-length}
use Rattle.std.proofs.lemmas.List.Folds.{length-prefix_len}
use Rattle.std.proofs.lemmas.Option.{none-some, same_Some, cond_some, option_and_then_some}
use Rattle.std.specs.Char.{digit_value, is_ascii_digit}
use Rattle.std.specs.List.{prefix_len}
use Rattle.std.specs.Str.Parse.{AllDigits}
use Rattle.mds_text.specs.Numbers.{HasDigits}
use Rattle.mds_text.specs.Numbers.{Parts, begins_with, behind_digits, behind_minus, behind_sign, digits, digits_at, exponent_at, fraction_at, has_exponent, is_lowering, is_whole, number_of, whole_at}

digit_below : (c : ℕ) → is_ascii_digit c ≡ true → digit_value c < 10
digit_below c h = grind (arith, nat_tests)

pub AllDigits-digits : (s : List ℕ) → AllDigits 10 (digits s)
AllDigits-digits [] = tt
AllDigits-digits (c ∷ s) =
    elim (is_ascii_digit c) as (λ b. is_ascii_digit c ≡ b → AllDigits 10 (take (cond b (1 + prefix_len is_ascii_digit s) 0) (c ∷ s))) [
      | true ↦ λ h.
          let next : 1 + prefix_len is_ascii_digit s ≡ suc (prefix_len is_ascii_digit s) = omega arith in
          subst (λ k. AllDigits 10 (take k (c ∷ s))) (sym next) (digit_below c h, AllDigits-digits s)
      | false ↦ λ h. tt
    ] refl

digits_at-digits : (s : List ℕ) (found : List ℕ × List ℕ) → digits_at s ≡ Some found → AllDigits 10 found.0
digits_at-digits s found =
    elim (eqb (length (digits s)) 0) as (λ b. cond b None (Some (digits s, behind_digits s)) ≡ Some found → AllDigits 10 found.0) [
      | true ↦ λ h. absurd (none-some found h)
      | false ↦ λ h. subst (AllDigits 10) (ap (λ p. p.0) (same_Some (digits s, behind_digits s) found h)) (AllDigits-digits s)
    ]

fraction_at-digits : (s : List ℕ) (found : List ℕ × List ℕ) → fraction_at s ≡ Some found → AllDigits 10 found.0
fraction_at-digits s found =
    elim (begins_with 46 s) as (λ b. cond b (digits_at (drop 1 s)) (Some ([], s)) ≡ Some found → AllDigits 10 found.0) [
      | true ↦ λ h. digits_at-digits (drop 1 s) found h
      | false ↦ λ h. subst (AllDigits 10) (ap (λ p. p.0) (same_Some ([], s) found h)) tt
    ]

exponent_at-digits : (s : List ℕ) (found : List ℕ × List ℕ) → exponent_at s ≡ Some found → AllDigits 10 found.0
exponent_at-digits s found =
    elim (has_exponent s) as (λ b. cond b (digits_at (behind_sign (drop 1 s))) (Some ([], s)) ≡ Some found → AllDigits 10 found.0) [
      | true ↦ λ h. digits_at-digits (behind_sign (drop 1 s)) found h
      | false ↦ λ h. subst (AllDigits 10) (ap (λ p. p.0) (same_Some ([], s) found h)) tt
    ]

whole_at-digits : (s : List ℕ) (found : List ℕ × List ℕ) → whole_at s ≡ Some found → digits s ≡ found.0
whole_at-digits s found h = ap (λ p. p.0) (cond_some (is_whole (digits s)) (digits s, behind_digits s) found h).1

digits_short : (s : List ℕ) → length (digits s) ≤ length s
digits_short s = omega (arith, length-prefix_len is_ascii_digit s, prefix_len-le-length is_ascii_digit s)

behind_minus_short : (s : List ℕ) → length (behind_minus s) ≤ length s
behind_minus_short s = elim (begins_with 45 s) as (λ b. length (cond b (drop 1 s) s) ≤ length s) [
  | true ↦ omega (arith, length-drop 1 s)
  | false ↦ omega arith
]

-- the parts of a number are digits, and no more of them than its text has bytes
pub number_of-digits : (s : List ℕ) (n : Parts) → number_of s ≡ Some n → HasDigits n × (length n.whole ≤ length s)
unfolding number_of
number_of-digits s n h =
    option_and_then_some _ (whole_at (behind_minus s)) n h (λ w is_whole_part rest.
    option_and_then_some _ (fraction_at w.1) n rest (λ f is_fraction more.
    option_and_then_some _ (exponent_at f.1) n more (λ e is_exponent last.
    let made = (cond_some (eqb (length e.1) 0) (record { negative = begins_with 45 s; whole = w.0; fraction = f.0; lowers = is_lowering f.1; exponent = e.0 }) n last).1 in
    let whole_is = whole_at-digits (behind_minus s) w is_whole_part in (
      record {
        whole = subst (AllDigits 10) (whole_is ∙ ap (λ p. p.whole) made) (AllDigits-digits (behind_minus s));
        fraction = subst (AllDigits 10) (ap (λ p. p.fraction) made) (fraction_at-digits w.1 f is_fraction);
        exponent = subst (AllDigits 10) (ap (λ p. p.exponent) made) (exponent_at-digits f.1 e is_exponent);
      },
      omega (arith, digits_short (behind_minus s), behind_minus_short s, ap length (whole_is ∙ ap (λ p. p.whole) made)),
    ))))
