use Rattle.std.proofs.Common.{◌≡◌, ◌++◌, map, drop}
use Rattle.mds_geometry.specs.Inside.{edges}
use Rattle.mds_geometry.specs.Strips.{edge_of}
use Rattle.mds_geometry.proofs.gather.gather_polygon.Given as goal

abbrev pub invariant-loop-ring : goal.invariant-loop-ring
invariant-loop-ring l =
    l.all.items ++ map (edge_of l.place) (edges (drop l.ring-index l.ring-items)) ≡ l.fn.all.items ++ map (edge_of l.place) (edges l.ring-items)
