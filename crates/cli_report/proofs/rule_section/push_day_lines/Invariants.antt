use Rattle.std.proofs.Common.{length}
use Rattle.cli_report.specs.Page.{day_pieces}
use Rattle.cli_report.specs.Pieces.{IsWritten}
use Rattle.cli_report.proofs.Dayed.{GoesOn}
use Rattle.cli_report.proofs.rule_section.push_day_lines.Given as goal

-- the lines of the days that are left go on behind those so far
abbrev pub invariant-days : goal.invariant-days
invariant-days l = GoesOn (λ day. IsWritten l.zone (day_pieces l.zone l.span.every day)) l.samples l.left l.fn.out.items l.out.items

abbrev pub decreases-days : goal.decreases-days
decreases-days l = length l.left
