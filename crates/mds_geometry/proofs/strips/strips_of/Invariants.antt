use Rattle.std.proofs.Common.{take}
use Rattle.mds_geometry.specs.Strips.{AreFiled, edges_at}
use Rattle.mds_geometry.proofs.strips.strips_of.Given as goal

abbrev pub invariant-loop-start : goal.invariant-loop-start
invariant-loop-start l = AreFiled l.polygons l.scale (edges_at l.polygons (take l.start-index l.starts)) l.all.items
