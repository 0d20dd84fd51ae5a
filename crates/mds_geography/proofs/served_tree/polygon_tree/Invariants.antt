use Rattle.std.proofs.Common.{◌≡◌, map, take}
use Rattle.mds_text.specs.View.{view}
use Rattle.mds_geography.specs.Served.{ring_json}
use Rattle.mds_geography.proofs.served_tree.polygon_tree.Given as goal

abbrev pub invariant-loop-ring : goal.invariant-loop-ring
invariant-loop-ring l = map view l.rings.items ≡ map ring_json (take l.ring-index l.ring-items)
