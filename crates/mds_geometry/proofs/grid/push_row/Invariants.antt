use Rattle.mds_geometry.proofs.Runs.{AreRun}
use Rattle.mds_geometry.proofs.grid.push_row.Given as goal

abbrev pub invariant-loop-column : goal.invariant-loop-column
invariant-loop-column l = AreRun l.columns l.rows l.striped l.marks l.row l.column l.fn.cells.items l.cells.items l.told
