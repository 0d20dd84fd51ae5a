use Rattle.std.proofs.Common.{map, subst}
use Rattle.std.proofs.lemmas.List.{take_all}
use Rattle.csv.specs.Records.{fields_of, partial_of}
use Rattle.cli_report.specs.Cells.{AreFields, cell_view}
use Rattle.cli_report.proofs.Rowed.{field_more}
use Rattle.cli_report.proofs.rows.gather_fields.Goals as goal

pub loop-cell-preserved : goal.loop-cell-preserved
loop-cell-preserved c =
    record {
      are =
          field_more c.args.zone.now c.args.cells.now c.loop-cell.cell-index c.cell-item.result
          (fields_of c.loop-cell.fields) (fields_of c.push_field.new.self) (partial_of c.loop-cell.fields) c.deref.result.now c.in_ok-field.field.items
          c.loop-cell-test.true c.cell-item.is c.loop-cell.invariant.are c.in_ok-field.ensures c.loop-cell.invariant.none
          c.deref.ensures.value c.in_ok-push_field.ensures.fields;
      none = c.in_ok-push_field.ensures.partial;
    }

pub returns : goal.returns
returns c =
    subst (λ cells. AreFields c.args.zone.now (map cell_view cells) (fields_of c.loop-cell.fields))
    (take_all c.loop-cell.cell-index c.args.cells.now c.loop-cell-test.false) c.loop-cell.invariant.are
