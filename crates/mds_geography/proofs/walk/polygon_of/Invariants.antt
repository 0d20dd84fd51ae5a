use Rattle.std.proofs.Common.{◌≡◌, ◌≤◌, map, drop}
use Rattle.mds_json.specs.Node.{node_view}
use Rattle.mds_geography.specs.Reading.{rings_of, most_positions}
use Rattle.mds_geography.proofs.Fronts.{with_front}
use Rattle.mds_geography.proofs.walk.polygon_of.Given as goal

abbrev pub invariant-loop-entry : goal.invariant-loop-entry
invariant-loop-entry l = record {
  few : l.read ≤ most_positions;
  whole : with_front l.rings.items (rings_of l.read (map node_view (drop l.entry-index l.entry-items))) ≡ rings_of l.fn.read (map node_view l.entry-items);
}
