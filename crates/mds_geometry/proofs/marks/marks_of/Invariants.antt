use Rattle.std.proofs.Common.{◌≡◌, ◌+◌, ◌*◌, length, take}
use Rattle.mds_geometry.specs.Grid.{AreMarked}
use Rattle.mds_geometry.proofs.marks.marks_of.Given as goal

abbrev pub invariant-loop-edge : goal.invariant-loop-edge
invariant-loop-edge l = record {
  whole : length l.marks.items ≡ (l.rows.last + 1) * 128;
  marked : AreMarked l.columns l.rows (take l.edge-index l.edges) l.marks.items;
}
