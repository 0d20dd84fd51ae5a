use Rattle.mds_geometry.proofs.Seen.{IsSeenTo}
use Rattle.mds_geometry.proofs.polygon.Polygon.holds.Given as goal

abbrev pub invariant-loop-ring : goal.invariant-loop-ring
invariant-loop-ring l = IsSeenTo l.ring-items l.at l.ring-index l.odd
