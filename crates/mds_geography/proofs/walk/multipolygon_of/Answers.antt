use Rattle.std.proofs.Common.{arith, ap, map, drop, ◌+◌, ◌∙◌}
use Rattle.mds_json.specs.Node.{node_view}
use Rattle.mds_geography.specs.Reading.{polygons_of}
use Rattle.mds_geography.proofs.Fronts.{with_front}
use Rattle.mds_geography.proofs.Rings.{polygons_turn}
use Rattle.mds_geography.proofs.walk.multipolygon_of.Goals as goal

pub loop-entry-preserved : goal.loop-entry-preserved
loop-entry-preserved c =
    let items = c.as_slice-entry-items.result.now in
    let turn = polygons_turn c.loop-entry.read c.in_ok-polygon.now_read c.loop-entry.polygons.items items c.loop-entry.entry-index c.entry-item.result c.in_ok-polygon.polygon
    (omega arith) c.entry-item.is c.in_ok-polygon.ensures.value in
    record {
      few = c.in_ok-polygon.ensures.few;
      whole =
          ap (λ front. with_front front (polygons_of c.in_ok-polygon.now_read (map node_view (drop (c.loop-entry.entry-index + 1) items)))) c.in_ok-push.ensures.items
          ∙ turn ∙ c.loop-entry.invariant.whole;
    }
