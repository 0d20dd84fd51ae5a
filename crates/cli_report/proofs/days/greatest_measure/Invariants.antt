use Rattle.std.proofs.Common.{◌≡◌, take}
use Rattle.std.specs.Prelude.{fold, max}
use Rattle.cli_report.proofs.days.greatest_measure.Given as goal

-- the greatest one so far
abbrev pub invariant-loop-sample : goal.invariant-loop-sample
invariant-loop-sample l = l.most ≡ fold (λ most s. max s.measure most) 0 (take l.sample-index l.samples)
