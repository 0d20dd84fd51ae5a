use Rattle.mds_geometry.proofs.Marked.{IsSpared}
use Rattle.mds_geometry.proofs.marks.mark_span.Given as goal

abbrev pub invariant-loop-place : goal.invariant-loop-place
invariant-loop-place l = IsSpared l.fn.marks l.marks l.first l.place
