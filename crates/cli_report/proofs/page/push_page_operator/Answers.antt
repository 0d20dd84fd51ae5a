use Rattle.std.proofs.Common.{List, map, ap, subst, ◌∙◌}
use Rattle.std.proofs.lemmas.Result.{on_ok_weaker}
use Rattle.mds_catalog.specs.Catalogue.{publications_of}
use Rattle.cli_report.specs.Names.{policies_in, tree_policy}
use Rattle.cli_report.specs.Ranks.{AreRanked}
use Rattle.cli_report.specs.Rows.{operator_view}
use Rattle.cli_report.specs.declared.days.DaySample.{DaySample}
use Rattle.cli_report.proofs.Ruled.{section_made}
use Rattle.cli_report.proofs.page.push_page_operator.Goals as goal

pub returns : goal.returns
returns c =
    on_ok_weaker c.push_markup.result
    (λ made. section_made c.args.zone.now c.args.span (operator_view c.args.operator.now)
    (policies_in (publications_of c.args.operator.now.catalogue.now)) (map tree_policy c.deref-2.result.now)
    c.args.operator.now.samples.now c.in_ok-ordered.ordered.items c.deref-3.result.now c.in_ok-rules.rules.items c.deref-4.result.now
    c.args.out.now.items c.push_name.new.out.items c.push_rules.new.out.items c.push_markup.new.out.items
    (ap (map tree_policy) c.deref-2.ensures.value ∙ c.in_ok-trees.ensures) c.deref-3.ensures.value c.deref-4.ensures.value
    c.in_ok-ordered.ensures
    (subst (λ (ordered : List DaySample). AreRanked ordered c.in_ok-rules.rules.items) c.deref.ensures.value c.in_ok-rules.ensures)
    c.in_ok-push_name.ensures c.in_ok-push_rules.ensures made)
    c.push_markup.ensures
