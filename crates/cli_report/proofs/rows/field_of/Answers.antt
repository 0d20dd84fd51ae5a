use Rattle.std.proofs.Common.{◌≡◌}
use Rattle.std.proofs.lemmas.Result.{IfOk-weaker}
use Rattle.cli_report.specs.Cells.{IsField, cell_view}
use Rattle.cli_report.specs.Csv.{guarded}
use Rattle.cli_report.proofs.Rowed.{field_made}
use Rattle.cli_report.proofs.rows.field_of.Goals as goal

pub returns : goal.returns
returns c =
    let cell = cell_view c.args.cell.now in
    IfOk-weaker c.guard_text.result
    (λ field. field.items ≡ guarded c.deref.result.now)
    (λ field. IsField c.args.zone.now cell field.items)
    (λ field made. field_made c.args.zone.now cell c.in_ok-text.text.items c.deref.result.now field.items
    c.in_ok-text.ensures c.deref.ensures.value made)
    c.guard_text.ensures
