use Rattle.std.proofs.Common.{map}
use Rattle.std.proofs.lemmas.Result.{on_ok_weaker}
use Rattle.cli_report.specs.Names.{label_view, tree_policy}
use Rattle.cli_report.specs.Rows.{operator_view}
use Rattle.cli_report.proofs.Rowed.{day_made}
use Rattle.cli_report.proofs.summary.push_day.Goals as goal

pub returns : goal.returns
returns c =
    on_ok_weaker c.push_tally.result
    (λ made. day_made c.args.zone.now (operator_view c.args.operator.now) (map tree_policy c.args.trees.now) c.args.samples.now
    c.first_of-first.result.now (label_view c.label_of-label.result) c.in_ok-tally.tally c.args.out.now.items c.push_tally.new.out.items
    c.requires c.first_of-first.ensures c.label_of-label.ensures c.in_ok-tally.ensures made)
    c.push_tally.ensures
