use Rattle.std.proofs.Common.{◌≡◌, ◌++◌, map, drop}
use Rattle.mds_geometry.specs.Inside.{edges}
use Rattle.mds_geometry.specs.Strips.{edge_of, edges_at}
use Rattle.mds_geometry.proofs.start.push_polygon.Given as goal

abbrev pub invariant-loop-ring : goal.invariant-loop-ring
invariant-loop-ring l =
    edges_at l.polygons l.all.items ++ map (edge_of l.place) (edges (drop l.ring l.polygon))
    ≡ edges_at l.polygons l.fn.all.items ++ map (edge_of l.place) (edges l.polygon)
