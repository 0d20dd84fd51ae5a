use Rattle.std.proofs.Common.{◌≡◌, drop}
use Rattle.cli_report.specs.Since.{is_over}
use Rattle.cli_report.proofs.since.is_over.Given as goal

-- it is so of the samples that are left, if it is of all
abbrev pub invariant-loop-sample : goal.invariant-loop-sample
invariant-loop-sample l = is_over l.until (drop l.sample-index l.samples) ≡ is_over l.until l.samples
