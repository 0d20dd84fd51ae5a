use Rattle.std.proofs.Common.{map, ap, ◌∙◌}
use Rattle.std.proofs.lemmas.Result.{on_ok_weaker}
use Rattle.mds_catalog.specs.Catalogue.{publications_of}
use Rattle.cli_report.specs.Names.{policies_in, tree_policy}
use Rattle.cli_report.specs.Rows.{operator_view}
use Rattle.cli_report.proofs.Rowed.{summed}
use Rattle.cli_report.proofs.summary.push_summary.Goals as goal

pub returns : goal.returns
returns c =
    on_ok_weaker c.push_days.result
    (λ made. summed c.args.zone.now (operator_view c.args.operator.now)
    (policies_in (publications_of c.args.operator.now.catalogue.now)) (map tree_policy c.deref.result.now)
    c.args.operator.now.samples.now c.in_ok-ordered.ordered.items c.deref-2.result.now c.args.out.now.items c.push_days.new.out.items
    (ap (map tree_policy) c.deref.ensures.value ∙ c.in_ok-trees.ensures) c.deref-2.ensures.value c.in_ok-ordered.ensures made)
    c.push_days.ensures
