use Rattle.std.proofs.Common.{arith}
use Rattle.std.specs.List.{All}
use Rattle.mds_geometry.specs.Bounds.{IsBounded}
use Rattle.mds_geometry.proofs.Wide.{all_more, all_taken, all_bounded_wider}
use Rattle.mds_geometry.proofs.bounds.bounds_of.Goals as goal

pub loop-polygon-preserved : goal.loop-polygon-preserved
loop-polygon-preserved c =
    all_more (All (IsBounded c.loop-polygon.bounds)) (All (IsBounded c.widen_to_polygon.new.self)) c.args.polygons.now c.loop-polygon.polygon-index c.polygon-item.result
    (all_bounded_wider c.loop-polygon.bounds c.widen_to_polygon.new.self c.widen_to_polygon.ensures.wider) c.loop-polygon-test.true c.polygon-item.is c.loop-polygon.invariant c.widen_to_polygon.ensures.held

pub returns : goal.returns
returns c = all_taken (All (IsBounded c.loop-polygon.bounds)) c.args.polygons.now c.loop-polygon.polygon-index (omega arith) c.loop-polygon.invariant
