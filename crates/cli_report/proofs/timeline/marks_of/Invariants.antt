use Rattle.std.proofs.Common.{◌≡◌, ◌++◌, length}
use Rattle.cli_report.specs.Lines.{marks}
use Rattle.cli_report.proofs.timeline.marks_of.Given as goal

-- the marks of the samples that are left go on behind those so far
abbrev pub invariant-marks : goal.invariant-marks
invariant-marks l = l.out.items ++ marks l.zone l.span.every l.left ≡ marks l.zone l.span.every l.samples

abbrev pub decreases-marks : goal.decreases-marks
decreases-marks l = length l.left
