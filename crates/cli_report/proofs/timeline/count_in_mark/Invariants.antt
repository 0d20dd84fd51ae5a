use Rattle.cli_report.specs.Lines.{goes_on}
use Rattle.cli_report.proofs.Groups.{AreTogether}
use Rattle.cli_report.proofs.timeline.count_in_mark.Given as goal

-- so far one mark goes on
abbrev pub invariant-loop-last : goal.invariant-loop-last
invariant-loop-last l = AreTogether (goes_on l.zone l.span.every) l.samples l.last
