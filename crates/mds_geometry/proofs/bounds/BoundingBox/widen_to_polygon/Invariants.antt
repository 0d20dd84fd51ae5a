use Rattle.std.proofs.Common.{take}
use Rattle.std.specs.List.{All}
use Rattle.mds_geometry.specs.Bounds.{IsBounded, AreWider}
use Rattle.mds_geometry.proofs.bounds.BoundingBox.widen_to_polygon.Given as goal

abbrev pub invariant-loop-ring : goal.invariant-loop-ring
invariant-loop-ring l = record {
  wider : AreWider l.fn.self l.self;
  held : All (IsBounded l.self) (take l.ring-index l.ring-items);
}
