use Rattle.std.proofs.Common.{◌≡◌, ◌≤◌, ◌++◌}
use Rattle.mds_text.specs.Numbers.{leading}
use Rattle.mds_text.proofs.degrees.leading_value.Given as goal

abbrev pub invariant-loop-place : goal.invariant-loop-place
invariant-loop-place l = (l.value ≡ leading (l.whole ++ l.fraction) l.place) × (l.value ≤ 18000000004)
