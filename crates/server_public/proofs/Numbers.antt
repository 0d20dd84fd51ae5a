-- At most eighteen digits read as the number that they write.
use Rattle.std.proofs.Common.{◌≡◌, ◌<◌, ◌≤◌, ℕ, List, Bool, true, false, cond, Option, None, Result, Ok, length, refl, ap, rules, arith}
use Rattle.std.specs.Char.{is_ascii_digit}
use Rattle.std.specs.List.{list_all}
use Rattle.std.specs.Str.{IsUtf8, is_utf8}
use Rattle.std.specs.Str.Parse.{ParsesUnsigned, digits_value}
use Rattle.std.proofs.lemmas.Str.{IsUtf8-from_is_utf8, is_utf8-from_IsUtf8}
use Rattle.std.proofs.lemmas.Str.Parse.{IsNumeralModel, numerals_by_value, parse_gives, digits_value_short}
use Rattle.server_public.specs.Period.{as_given, moment_at, number_in}

own : IsNumeralModel (λ ds. list_all is_ascii_digit ds ≡ true) (digits_value 10)
own = numerals_by_value (λ ds. list_all is_ascii_digit ds ≡ true) (search rules)

pub reads : {E : Type 0} (word : List ℕ) (r : Result ℕ E) → ParsesUnsigned 64 10 word r → list_all is_ascii_digit word ≡ true → 0 < length word → length word ≤ 18 → r ≡ Ok (digits_value 10 word)
reads word r h digits some short = parse_gives own 64 word r h digits some (omega (arith, digits_value_short own word 18 digits short))

pub at_text : (text : List ℕ) → IsUtf8 text → moment_at text ≡ as_given (number_in text)
at_text text is = ap (λ b. cond b (as_given (number_in text)) None) (is_utf8-from_IsUtf8 text is)

refused : (b : Bool) (moment : Option (Option ℕ)) → (b ≡ true → ⊥) → cond b moment None ≡ None
refused true moment isnt = absurd (isnt refl)
refused false moment isnt = refl

pub at_none : (text : List ℕ) → (IsUtf8 text → ⊥) → moment_at text ≡ None
at_none text isnt = refused (is_utf8 text) (as_given (number_in text)) (λ is. isnt (IsUtf8-from_is_utf8 text is))
