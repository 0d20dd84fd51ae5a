use Rattle.mds_geometry.proofs.Marked.{AreSpared}
use Rattle.mds_geometry.proofs.marks.mark_box.Given as goal

abbrev pub invariant-loop-row : goal.invariant-loop-row
invariant-loop-row l = AreSpared l.fn.marks l.marks l.south l.row l.west l.east
