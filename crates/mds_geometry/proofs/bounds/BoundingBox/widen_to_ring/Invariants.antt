use Rattle.std.proofs.Common.{◌≡◌, true, take}
use Rattle.std.specs.List.{All}
use Rattle.mds_geometry.specs.Bounds.{is_within, AreWider}
use Rattle.mds_geometry.proofs.bounds.BoundingBox.widen_to_ring.Given as goal

abbrev pub invariant-loop-position : goal.invariant-loop-position
invariant-loop-position l = record {
  wider : AreWider l.fn.self l.self;
  held : All (λ at. is_within l.self at ≡ true) (take l.position-index l.position-items);
}
