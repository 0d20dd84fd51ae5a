use Rattle.std.proofs.Common.{◌≡◌, take}
use Rattle.cli_report.specs.Since.{up_to}
use Rattle.cli_report.proofs.since.up_to.Given as goal

-- those so far
abbrev pub invariant-loop-sample : goal.invariant-loop-sample
invariant-loop-sample l = l.found.items ≡ up_to l.until (take l.sample-index l.samples)
