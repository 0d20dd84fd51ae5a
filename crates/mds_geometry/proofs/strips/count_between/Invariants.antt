use Rattle.std.proofs.Common.{◌≡◌, length}
use Rattle.mds_geometry.proofs.strips.count_between.Given as goal

abbrev pub invariant-loop-place : goal.invariant-loop-place
invariant-loop-place l = length l.counts ≡ length l.fn.counts
