use Rattle.std.proofs.Common.{arith, inl, ◌+◌, sym, subst}
use Rattle.mds_geometry.proofs.Runs.{AreRun, IsCorner, IsRun, begins, goes_on, row_more}
use Rattle.mds_geometry.proofs.grid.push_row.Goals as goal
use Rattle.mds_geometry.proofs.grid.push_row.Goals.{then-marked, else-marked+then-matches, else-marked+else-matches}

pub loop-column-preserved : goal.loop-column-preserved
loop-column-preserved c =
    let columns = c.args.columns.now in
    let rows = c.args.rows.now in
    let area = c.args.striped.now in
    let marks = c.args.marks.now in
    let column = c.loop-column.column in
    let run : IsRun columns rows area marks c.args.row (column + 1) c.if-marked.told =
    elim c.if-marked.branch [
      | then-marked w ↦ inl w.told-is
      | else-marked+then-matches w ↦
          begins columns rows area marks c.args.row column c.if-marked.told w.if-marked.false
          (subst (IsCorner columns rows area c.args.row column) (sym w.told-is) w.cell_by_corner-told.ensures)
      | else-marked+else-matches w ↦
          goes_on columns rows area marks c.args.row column c.if-marked.told w.if-marked.false
          (subst (IsRun columns rows area marks c.args.row column) (sym w.told-is) c.loop-column.invariant.run)
    ] in
    subst (λ cells. AreRun columns rows area marks c.args.row (column + 1) c.args.cells.now.items cells c.if-marked.told) (sym c.in_ok-push.ensures.items)
    (row_more columns rows area marks c.args.row column c.args.cells.now.items c.loop-column.cells.items c.loop-column.told c.if-marked.told
    c.requires.linear (λ n low free. c.requires.marked n (omega arith) free) c.loop-column.invariant run)
