use Rattle.std.proofs.Common.{map, subst}
use Rattle.cli_report.specs.Cells.{IsRow}
use Rattle.cli_report.specs.Names.{tree_policy}
use Rattle.cli_report.specs.Rows.{operator_view, verdict_cells, verdict_row}
use Rattle.cli_report.specs.Texts.{Appends}
use Rattle.cli_report.proofs.Spelled.{one_more}
use Rattle.cli_report.proofs.verdicts.push_samples.Goals as goal

pub loop-sample-preserved : goal.loop-sample-preserved
loop-sample-preserved c =
    let zone = c.args.zone.now in
    let operator = operator_view c.args.operator.now in
    one_more (λ s. IsRow zone (verdict_row operator (map tree_policy c.args.trees.now) s)) c.args.samples.now
    c.loop-sample.sample-index c.sample-item.result c.args.out.now.items c.loop-sample.out.items c.push_verdict.new.out.items
    c.loop-sample-test.true c.sample-item.is c.loop-sample.invariant
    (subst (λ label. Appends (IsRow zone (verdict_cells operator label c.sample-item.result)) c.loop-sample.out.items c.push_verdict.new.out.items)
    c.label_of-label.ensures c.in_ok-push_verdict.ensures)
