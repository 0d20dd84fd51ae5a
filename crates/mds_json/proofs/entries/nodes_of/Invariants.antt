use Rattle.std.proofs.Common.{◌≡◌, map, take}
use Rattle.mds_json.specs.Node.{node_view, pair_view}
use Rattle.mds_json.proofs.entries.nodes_of.Given as goal

abbrev pub invariant-loop-pair : goal.invariant-loop-pair
invariant-loop-pair l = map node_view l.nodes.items ≡ map pair_view (take l.pair-index l.pairs)
