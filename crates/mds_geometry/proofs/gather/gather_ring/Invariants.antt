use Rattle.std.proofs.Common.{◌≡◌, ◌++◌, map}
use Rattle.std.specs.List.{zip}
use Rattle.mds_geometry.specs.Inside.{edges_of_ring}
use Rattle.mds_geometry.specs.Strips.{edge_of}
use Rattle.mds_geometry.proofs.gather.gather_ring.Given as goal

abbrev pub invariant-loop-from : goal.invariant-loop-from
invariant-loop-from l =
    l.all.items ++ map (edge_of l.polygon) (zip l.from-iterator.a.rest.now l.from-iterator.b.rest.now) ≡ l.fn.all.items ++ map (edge_of l.polygon) (edges_of_ring l.ring)
