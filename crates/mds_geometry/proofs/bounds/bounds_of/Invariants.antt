use Rattle.std.proofs.Common.{take}
use Rattle.mds_geometry.specs.Bounds.{AreBounded}
use Rattle.mds_geometry.proofs.bounds.bounds_of.Given as goal

abbrev pub invariant-loop-polygon : goal.invariant-loop-polygon
invariant-loop-polygon l = AreBounded l.bounds (take l.polygon-index l.polygons)
