use Rattle.cli_report.specs.Days.{is_of_rule}
use Rattle.cli_report.proofs.Groups.{AreTogether}
use Rattle.cli_report.proofs.ranking.count_of_rule.Given as goal

-- so far all are of the first one's rule
abbrev pub invariant-loop-last : goal.invariant-loop-last
invariant-loop-last l = AreTogether is_of_rule l.samples l.last
