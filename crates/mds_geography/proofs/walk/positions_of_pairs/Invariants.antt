use Rattle.std.proofs.Common.{◌≡◌, ◌≤◌, map, drop}
use Rattle.mds_json.specs.Node.{pair_view}
use Rattle.mds_geography.specs.Reading.{positions_of, most_positions}
use Rattle.mds_geography.proofs.Fronts.{with_front}
use Rattle.mds_geography.proofs.walk.positions_of_pairs.Given as goal

abbrev pub invariant-loop-pair : goal.invariant-loop-pair
invariant-loop-pair l = record {
  few : l.read ≤ most_positions;
  whole : with_front l.positions.items (positions_of l.read (map pair_view (drop l.pair-index l.pairs))) ≡ positions_of l.fn.read (map pair_view l.pairs);
}
