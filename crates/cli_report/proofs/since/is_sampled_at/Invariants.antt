use Rattle.std.proofs.Common.{◌≡◌, drop}
use Rattle.cli_report.specs.Since.{is_sampled_at}
use Rattle.cli_report.proofs.since.is_sampled_at.Given as goal

-- it is among the samples that are left, if it is among all
abbrev pub invariant-loop-sample : goal.invariant-loop-sample
invariant-loop-sample l = is_sampled_at l.at (drop l.sample-index l.samples) ≡ is_sampled_at l.at l.samples
