use Rattle.std.proofs.Common.{List, map, sym, subst, arith}
use Rattle.std.proofs.lemmas.Bool.Decides.{nat_tests}
use Rattle.std.proofs.lemmas.Result.{on_ok_weaker}
use Rattle.cli_report.specs.Names.{label_view, tree_policy}
use Rattle.cli_report.specs.Page.{rule_pieces}
use Rattle.cli_report.specs.Pieces.{IsWritten}
use Rattle.cli_report.specs.Texts.{Appends}
use Rattle.cli_report.specs.declared.days.DaySample.{DaySample}
use Rattle.cli_report.proofs.Dayed.{none}
use Rattle.cli_report.proofs.Ruled.{rule_made}
use Rattle.cli_report.proofs.rule_section.push_rule.Goals as goal

pub returns-then-is_empty : goal.returns-then-is_empty
returns-then-is_empty c =
    on_ok_weaker c.push_pieces.result
    (λ made. subst (λ (samples : List DaySample). Appends (IsWritten c.args.zone.now
    (rule_pieces c.args.zone.now c.args.span.now (map tree_policy c.args.trees.now) samples)) c.args.out.now.items c.push_pieces.new.out.items)
    (sym (none c.args.samples.now (grind (arith, nat_tests, c.is_empty.ensures, c.if-is_empty.true)))) made)
    c.push_pieces.ensures

pub returns : goal.returns
returns c =
    on_ok_weaker c.push_days.result
    (λ made. rule_made c.args.zone.now c.args.span.now (map tree_policy c.args.trees.now) c.args.samples.now
    c.first_of-first.result.now (label_view c.label_of-label.result)
    c.args.out.now.items c.push_titles.new.out.items c.push_judgment.new.out.items c.push_end.new.out.items c.push_days.new.out.items
    (grind (arith, nat_tests, c.is_empty.ensures, c.if-is_empty.false)) c.first_of-first.ensures c.label_of-label.ensures
    c.in_ok-push_titles.ensures c.in_ok-push_judgment.ensures c.in_ok-push_end.ensures made)
    c.push_days.ensures
