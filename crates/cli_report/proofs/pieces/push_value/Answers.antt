use Rattle.std.proofs.lemmas.Result.{on_ok_weaker}
use Rattle.cli_report.specs.Cells.{cell_view}
use Rattle.cli_report.proofs.Written.{value_made}
use Rattle.cli_report.proofs.pieces.push_value.Goals as goal

pub returns : goal.returns
returns c =
    on_ok_weaker c.push_escaped.result
    (λ made. value_made c.args.zone.now (cell_view c.args.cell.now) c.in_ok-plain.plain.items c.deref.result.now
    c.args.out.now.items c.push_escaped.new.out.items c.in_ok-plain.ensures c.deref.ensures.value made)
    c.push_escaped.ensures
