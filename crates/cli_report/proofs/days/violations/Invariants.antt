use Rattle.std.proofs.Common.{◌≡◌, take}
use Rattle.std.specs.Prelude.{filter}
use Rattle.cli_report.proofs.days.violations.Given as goal

-- the violated ones so far
abbrev pub invariant-loop-sample : goal.invariant-loop-sample
invariant-loop-sample l = l.found.items ≡ filter (λ s. s.violated) (take l.sample-index l.samples)
