use Rattle.std.proofs.Common.{◌≡◌, map, take}
use Rattle.mds_text.specs.View.{view}
use Rattle.mds_json.specs.Node.{pair_view}
use Rattle.mds_json.proofs.own.own_pairs.Given as goal

abbrev pub invariant-loop-pair : goal.invariant-loop-pair
invariant-loop-pair l = map view l.owned.items ≡ map pair_view (take l.pair-index l.pairs)
