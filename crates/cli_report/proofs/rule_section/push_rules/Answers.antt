use Rattle.std.proofs.Common.{map, subst}
use Rattle.std.proofs.lemmas.List.{take_all}
use Rattle.cli_report.specs.Names.{tree_policy}
use Rattle.cli_report.specs.Page.{rule_pieces}
use Rattle.cli_report.specs.Pieces.{IsPiece, IsWritten}
use Rattle.cli_report.specs.Ranks.{samples_of}
use Rattle.cli_report.specs.Texts.{Appends, Spells}
use Rattle.cli_report.specs.declared.ranking.RuleSpan.{RuleSpan}
use Rattle.cli_report.proofs.Spelled.{one_more_at}
use Rattle.cli_report.proofs.Written.{all_flat}
use Rattle.cli_report.proofs.rule_section.push_rules.Goals as goal

pub loop-rule-preserved : goal.loop-rule-preserved
loop-rule-preserved c =
    let zone = c.args.zone.now in
    let policies = map tree_policy c.args.trees.now in
    one_more_at (λ r. IsWritten zone (rule_pieces zone c.args.span.now policies (samples_of c.args.ordered.now r)))
    c.args.rules.now c.loop-rule.rule-index _
    c.args.out.now.items c.loop-rule.out.items c.push_ranked_rule.new.out.items
    c.loop-rule-test.true c.loop-rule.invariant c.in_ok-push_ranked_rule.ensures

pub returns : goal.returns
returns c =
    let zone = c.args.zone.now in
    let pieces = λ (r : RuleSpan). rule_pieces zone c.args.span.now (map tree_policy c.args.trees.now) (samples_of c.args.ordered.now r) in
    all_flat (IsPiece zone) pieces c.args.rules.now c.args.out.now.items c.loop-rule.out.items
    (subst (λ rules. Appends (Spells (λ r. IsWritten zone (pieces r)) rules) c.args.out.now.items c.loop-rule.out.items)
    (take_all c.loop-rule.rule-index c.args.rules.now c.loop-rule-test.false) c.loop-rule.invariant)
