use Rattle.std.proofs.Common.{map, subst, ap, ◌∙◌, OnOk}
use Rattle.cli_report.specs.Names.{tree_policy}
use Rattle.cli_report.specs.Rows.{IsVerdicts, operator_view}
use Rattle.cli_report.specs.Texts.{Appends}
use Rattle.cli_report.proofs.verdicts.push_verdicts.Goals as goal

pub returns : goal.returns
returns c =
    subst
    (λ policies. OnOk c.push_samples.result
    (Appends (IsVerdicts c.args.zone.now (operator_view c.args.operator.now) policies c.args.operator.now.samples.now)
    c.args.out.now.items c.push_samples.new.out.items))
    (ap (map tree_policy) c.deref.ensures.value ∙ c.in_ok-trees.ensures) c.push_samples.ensures
