use Rattle.std.proofs.Common.{◌≡◌, take}
use Rattle.std.specs.Prelude.{fold, None}
use Rattle.cli_report.specs.Since.{violated_last}
use Rattle.cli_report.proofs.since.last_violated.Given as goal

-- the latest one so far
abbrev pub invariant-loop-sample : goal.invariant-loop-sample
invariant-loop-sample l = l.latest ≡ fold violated_last None (take l.sample-index l.samples)
