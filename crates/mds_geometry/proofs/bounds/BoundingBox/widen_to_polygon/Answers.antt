use Rattle.std.proofs.Common.{arith, sym}
use Rattle.std.proofs.lemmas.List.Elements.{All-same}
use Rattle.mds_geometry.specs.Bounds.{IsBounded}
use Rattle.mds_geometry.proofs.Wide.{all_more, all_taken, bounded_wider}
use Rattle.mds_geometry.proofs.bounds.BoundingBox.widen_to_polygon.Goals as goal

pub loop-ring-preserved : goal.loop-ring-preserved
loop-ring-preserved c = record {
  wider = λ at h. c.widen_to_ring.ensures.wider at (c.loop-ring.invariant.wider at h);
  held =
      all_more (IsBounded c.loop-ring.self) (IsBounded c.widen_to_ring.new.self) c.rings-ring-items.result.now c.loop-ring.ring-index c.ring-item.result
      (bounded_wider c.loop-ring.self c.widen_to_ring.new.self c.widen_to_ring.ensures.wider) c.loop-ring-test.true c.ring-item.is c.loop-ring.invariant.held c.widen_to_ring.ensures.held;
}

pub returns-clause-held : goal.returns-clause-held
returns-clause-held c =
    All-same (IsBounded c.loop-ring.self) _ _ (sym c.rings-ring-items.ensures)
    (all_taken (IsBounded c.loop-ring.self) c.rings-ring-items.result.now c.loop-ring.ring-index (omega arith) c.loop-ring.invariant.held)
