use Rattle.mds_geometry.proofs.Seen.{IsSeen}
use Rattle.mds_geometry.proofs.ray.ray_test.Given as goal

abbrev pub invariant-loop-from : goal.invariant-loop-from
invariant-loop-from l = IsSeen l.ring l.at l.from-iterator.a.rest.now l.from-iterator.b.rest.now l.odd
