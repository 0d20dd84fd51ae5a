use Rattle.std.proofs.Common.{◌≡◌, true, ◌<◌, ◌^◌, take}
use Rattle.mds_script.specs.Input.{are_digits, decimal}
use Rattle.mds_script.proofs.cut.number_of.Given as goal

abbrev pub invariant-loop-digit : goal.invariant-loop-digit
invariant-loop-digit l = record {
  value : l.number ≡ decimal (take l.digit-index l.digits);
  bound : l.number < 10 ^ l.digit-index;
  digits : are_digits (take l.digit-index l.digits) ≡ true;
}
