use Rattle.std.proofs.Common.{◌≡◌, ◌<◌, ◌^◌, take}
use Rattle.std.specs.Str.Parse.{digits_value}
use Rattle.mds_text.proofs.degrees.value_of.Given as goal

abbrev pub invariant-loop-place : goal.invariant-loop-place
invariant-loop-place l = (l.value ≡ digits_value 10 (take l.place l.digits)) × (l.value < 10 ^ l.place)
