use Rattle.std.proofs.Common.{arith, ◌≡◌, true}
use Rattle.mds_geometry.specs.Bounds.{is_within}
use Rattle.mds_geometry.proofs.Wide.{all_more, all_taken}
use Rattle.mds_geometry.proofs.bounds.BoundingBox.widen_to_ring.Goals as goal

pub loop-position-preserved : goal.loop-position-preserved
loop-position-preserved c = record {
  wider = λ at h. c.widen.ensures.wider at (c.loop-position.invariant.wider at h);
  held =
      all_more (λ at. is_within c.loop-position.self at ≡ true) (λ at. is_within c.widen.new.self at ≡ true) c.positions-position-items.result.now c.loop-position.position-index c.position-item.result
      c.widen.ensures.wider c.loop-position-test.true c.position-item.is c.loop-position.invariant.held c.widen.ensures.held;
}

pub returns-clause-held : goal.returns-clause-held
returns-clause-held c =
    rw (← c.positions-position-items.ensures.positions) (record {
      linear = c.positions-position-items.ensures.ring;
      within = all_taken (λ at. is_within c.loop-position.self at ≡ true) c.positions-position-items.result.now c.loop-position.position-index (omega arith) c.loop-position.invariant.held;
    })
