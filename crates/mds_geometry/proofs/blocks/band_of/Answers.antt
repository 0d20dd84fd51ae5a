use Rattle.std.proofs.Common.{arith, ◌≡◌, true}
use Rattle.mds_geometry.specs.Bounds.{lies_in}
use Rattle.mds_geometry.proofs.Wide.{all_more, all_taken}
use Rattle.mds_geometry.proofs.blocks.band_of.Goals as goal

pub loop-position-preserved : goal.loop-position-preserved
loop-position-preserved c =
    all_more (λ p. lies_in c.loop-position.band p.lat ≡ true) (λ p. lies_in c.widen.new.self p.lat ≡ true) c.args.positions.now c.loop-position.position-index c.position-item.result
    (λ p h. c.widen.ensures.wider p.lat h) c.loop-position-test.true c.position-item.is c.loop-position.invariant c.widen.ensures.held

pub returns : goal.returns
returns c = all_taken (λ p. lies_in c.loop-position.band p.lat ≡ true) c.args.positions.now c.loop-position.position-index (omega arith) c.loop-position.invariant
