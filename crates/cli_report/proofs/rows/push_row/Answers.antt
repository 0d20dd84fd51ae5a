use Rattle.std.proofs.Common.{map}
use Rattle.csv.specs.Records.{fields_of}
use Rattle.cli_report.specs.Cells.{cell_view}
use Rattle.cli_report.proofs.Rowed.{row_made}
use Rattle.cli_report.proofs.rows.push_row.Goals as goal

pub returns : goal.returns
returns c =
    row_made c.args.zone.now (map cell_view c.args.cells.now) (fields_of c.in_ok-fields.fields) c.in_ok-row.row.items c.deref.result.now
    c.args.out.now.items c.extend_from_slice.new.self.items
    c.in_ok-fields.ensures c.in_ok-row.ensures c.deref.ensures.value c.in_ok-extend_from_slice.ensures.items
