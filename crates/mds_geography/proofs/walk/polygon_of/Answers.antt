use Rattle.std.proofs.Common.{arith, ap, map, drop, ◌+◌, ◌∙◌}
use Rattle.mds_json.specs.Node.{node_view}
use Rattle.mds_geography.specs.Reading.{rings_of}
use Rattle.mds_geography.proofs.Fronts.{with_front}
use Rattle.mds_geography.proofs.Rings.{rings_turn}
use Rattle.mds_geography.proofs.walk.polygon_of.Goals as goal

pub loop-entry-preserved : goal.loop-entry-preserved
loop-entry-preserved c =
    let items = c.as_slice-entry-items.result.now in
    let turn = rings_turn c.loop-entry.read c.in_ok-ring.now_read c.loop-entry.rings.items items c.loop-entry.entry-index c.entry-item.result c.in_ok-ring.ring
    (omega arith) c.entry-item.is c.in_ok-ring.ensures.value in
    record {
      few = c.in_ok-ring.ensures.few;
      whole =
          ap (λ front. with_front front (rings_of c.in_ok-ring.now_read (map node_view (drop (c.loop-entry.entry-index + 1) items)))) c.in_ok-push.ensures.items
          ∙ turn ∙ c.loop-entry.invariant.whole;
    }
