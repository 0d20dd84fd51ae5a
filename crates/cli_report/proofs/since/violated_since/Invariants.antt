use Rattle.std.proofs.Common.{◌≡◌, take}
use Rattle.std.specs.Prelude.{fold, None}
use Rattle.cli_report.specs.Since.{violated_by}
use Rattle.cli_report.proofs.since.violated_since.Given as goal

-- the earliest one so far
abbrev pub invariant-loop-sample : goal.invariant-loop-sample
invariant-loop-sample l = l.since ≡ fold (violated_by l.kept) None (take l.sample-index l.samples)
