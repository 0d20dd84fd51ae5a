use Rattle.std.proofs.Common.{◌≡◌, take}
use Rattle.std.specs.Prelude.{fold, None}
use Rattle.cli_report.specs.Since.{kept_by}
use Rattle.cli_report.proofs.since.last_kept.Given as goal

-- the latest one so far
abbrev pub invariant-loop-sample : goal.invariant-loop-sample
invariant-loop-sample l = l.latest ≡ fold kept_by None (take l.sample-index l.samples)
