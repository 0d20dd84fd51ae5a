use Rattle.mds_geometry.proofs.Starts.{AreStartedTo}
use Rattle.mds_geometry.proofs.start.push_ring.Given as goal

abbrev pub invariant-loop-place : goal.invariant-loop-place
invariant-loop-place l = AreStartedTo l.polygons l.polygon l.ring l.fn.all.items l.all.items l.place
