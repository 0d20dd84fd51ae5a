use Rattle.std.proofs.Common.{◌≡◌, map, take}
use Rattle.cli_report.specs.Days.{day_sample}
use Rattle.cli_report.proofs.days.day_samples.Given as goal

-- the samples so far
abbrev pub invariant-loop-sample : goal.invariant-loop-sample
invariant-loop-sample l = l.days.items ≡ map (day_sample l.zone) (take l.sample-index l.samples)
