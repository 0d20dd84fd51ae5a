use Rattle.std.proofs.Common.{◌≡◌, ℕ, ◌^◌, ◌<◌, ◌≤◌, true, get_or, take}
use Rattle.std.specs.Char.{is_ascii_digit}
use Rattle.std.specs.Str.Parse.{digits_value}
use Rattle.mds_geometry.proofs.decimal.leading_digits.Given as goal

abbrev pub invariant-loop-place : goal.invariant-loop-place
invariant-loop-place l = record {
  value : l.value ≡ digits_value 10 (take l.place l.text);
  small : l.value < 10 ^ l.place;
  few : l.place ≤ 9;
  digits : (k : ℕ) → k < l.place → is_ascii_digit (get_or l.text k 0) ≡ true;
}
