-- At most nine digits parse as the number that they write.
use Rattle.std.proofs.Common.{◌≡◌, ◌<◌, ◌≤◌, ℕ, List, Result, Ok, length, true, rules, arith}
use Rattle.std.specs.Str.Parse.{ParsesUnsigned, digits_value}
use Rattle.std.proofs.lemmas.Str.Parse.{IsNumeralModel, numerals_by_value, parse_gives, digits_value_short}
use Rattle.server_start.specs.Input.{are_digits}

own : IsNumeralModel (λ ds. are_digits ds ≡ true) (digits_value 10)
own = numerals_by_value (λ ds. are_digits ds ≡ true) (search rules)

pub reads : {E : Type 0} (word : List ℕ) (r : Result ℕ E) → ParsesUnsigned 64 10 word r → are_digits word ≡ true → 0 < length word → length word ≤ 9 → r ≡ Ok (digits_value 10 word)
reads word r h digits some short = parse_gives own 64 word r h digits some (omega (arith, digits_value_short own word 9 digits short))
