use Rattle.std.proofs.Common.{◌≡◌, map, take}
use Rattle.mds_text.specs.View.{view}
use Rattle.mds_geography.specs.Served.{polygon_json}
use Rattle.mds_geography.proofs.served_tree.multipolygon_tree.Given as goal

abbrev pub invariant-loop-polygon : goal.invariant-loop-polygon
invariant-loop-polygon l = map view l.coordinates.items ≡ map polygon_json (take l.polygon-index l.polygons)
