use Rattle.std.proofs.Common.{◌≡◌, ◌+◌, length}
use Rattle.mds_geometry.proofs.strips.count_edges.Given as goal

abbrev pub invariant-loop-edge : goal.invariant-loop-edge
invariant-loop-edge l = length l.counts.items ≡ l.scale.last + 1
