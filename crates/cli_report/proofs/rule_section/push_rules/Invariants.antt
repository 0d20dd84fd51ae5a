use Rattle.std.proofs.Common.{map, take}
use Rattle.cli_report.specs.Names.{tree_policy}
use Rattle.cli_report.specs.Page.{rule_pieces}
use Rattle.cli_report.specs.Pieces.{IsWritten}
use Rattle.cli_report.specs.Ranks.{samples_of}
use Rattle.cli_report.specs.Texts.{Appends, Spells}
use Rattle.cli_report.proofs.rule_section.push_rules.Given as goal

-- the rules so far
abbrev pub invariant-loop-rule : goal.invariant-loop-rule
invariant-loop-rule l =
    Appends (Spells (λ r. IsWritten l.zone (rule_pieces l.zone l.span (map tree_policy l.trees) (samples_of l.ordered r))) (take l.rule-index l.rules))
    l.fn.out.items l.out.items
