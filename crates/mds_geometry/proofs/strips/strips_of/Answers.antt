use Rattle.std.proofs.Common.{arith, length, ◌<◌}
use Rattle.std.proofs.lemmas.List.{get_or_default}
use Rattle.mds_geometry.proofs.Starts.{filed_back}
use Rattle.mds_geometry.proofs.strips.strips_of.Goals as goal

pub loop-start-preserved : goal.loop-start-preserved
loop-start-preserved c =
    let l = c.loop-start in
    let within : l.start-index < length c.args.starts.now = omega (arith, c.loop-start-test.true) in
    filed_back c.args.polygons.now c.args.scale.now c.args.starts.now l.start-index _ _ l.all.items c.deref_mut.result.now c.add_start.new.all l.all.len
    within (get_or_default c.args.starts.now l.start-index _ _ within) c.edge_in-edge.ensures c.deref_mut.ensures.value c.deref_mut.ensures.len
    c.add_start.auto.all c.in_ok-add_start.ensures l.invariant
