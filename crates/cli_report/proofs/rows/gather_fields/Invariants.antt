use Rattle.std.proofs.Common.{◌≡◌, [], map, take}
use Rattle.csv.specs.Records.{fields_of, partial_of}
use Rattle.cli_report.specs.Cells.{AreFields, cell_view}
use Rattle.cli_report.proofs.rows.gather_fields.Given as goal

-- the fields so far, and none is begun
abbrev pub invariant-loop-cell : goal.invariant-loop-cell
invariant-loop-cell l =
    record {
      are : AreFields l.zone (map cell_view (take l.cell-index l.cells)) (fields_of l.fields);
      none : partial_of l.fields ≡ [];
    }
