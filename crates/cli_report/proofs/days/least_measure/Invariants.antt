use Rattle.std.proofs.Common.{◌≡◌, take}
use Rattle.std.specs.Prelude.{fold, Some, None}
use Rattle.cli_report.specs.Days.{lesser}
use Rattle.cli_report.proofs.days.least_measure.Given as goal

-- the least one so far
abbrev pub invariant-loop-sample : goal.invariant-loop-sample
invariant-loop-sample l = l.least ≡ fold (λ least s. Some (lesser least s.measure)) None (take l.sample-index l.samples)
