use Rattle.std.proofs.Common.{◌≡◌, ◌++◌, drop}
use Rattle.mds_geometry.specs.Strips.{edges_at, edges_from}
use Rattle.mds_geometry.proofs.start.starts_of.Given as goal

abbrev pub invariant-loop-place : goal.invariant-loop-place
invariant-loop-place l =
    edges_at l.polygons l.all.items ++ edges_from l.place (drop l.place l.polygons) ≡ edges_from 0 l.polygons
