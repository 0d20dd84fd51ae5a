use Rattle.cli_report.specs.Days.{is_beside}
use Rattle.cli_report.proofs.Groups.{AreTogether}
use Rattle.cli_report.proofs.days.count_first.Given as goal

-- so far all are of the first one's rule and day
abbrev pub invariant-loop-last : goal.invariant-loop-last
invariant-loop-last l = AreTogether is_beside l.samples l.last
