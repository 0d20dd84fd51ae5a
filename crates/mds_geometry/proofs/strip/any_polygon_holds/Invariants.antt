use Rattle.std.proofs.Common.{◌≡◌, false, drop}
use Rattle.mds_geometry.specs.Strips.{any_holds, edges_at, ring_at}
use Rattle.mds_geometry.proofs.strip.any_polygon_holds.Given as goal

abbrev pub invariant-loop-start : goal.invariant-loop-start
invariant-loop-start l = record {
  here : l.positions ≡ ring_at l.polygons l.before.polygon l.before.ring;
  seen : any_holds l.at l.polygon l.odd (edges_at l.polygons (drop l.start-index l.starts)) ≡ any_holds l.at 0 false (edges_at l.polygons l.starts);
}
