use Rattle.std.proofs.Common.{◌≡◌, take}
use Rattle.std.specs.Prelude.{filter}
use Rattle.cli_report.proofs.days.open_ones.Given as goal

-- those of the samples so far
abbrev pub invariant-loop-sample : goal.invariant-loop-sample
invariant-loop-sample l = l.found.items ≡ filter (λ s. s.judged) (take l.sample-index l.samples)
