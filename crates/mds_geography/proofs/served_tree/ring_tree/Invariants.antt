use Rattle.std.proofs.Common.{◌≡◌, map, take}
use Rattle.mds_text.specs.View.{view}
use Rattle.mds_geography.specs.Served.{position_json}
use Rattle.mds_geography.proofs.served_tree.ring_tree.Given as goal

abbrev pub invariant-loop-position : goal.invariant-loop-position
invariant-loop-position l = map view l.positions.items ≡ map position_json (take l.position-index l.position-items)
