use Rattle.std.proofs.Common.{◌≡◌, ◌≤◌, ◌+◌, length, take, drop}
use Rattle.cli_report.specs.Days.{leading, longest}
use Rattle.cli_report.proofs.days.longest_run.Given as goal

-- the run that begins at the first of the samples behind, and the longest one of them
abbrev pub invariant-loop-left : goal.invariant-loop-left
invariant-loop-left l = record {
  within : l.left ≤ length l.samples;
  fits : l.left + l.leading ≤ length l.samples;
  inside : l.first + l.count ≤ length l.samples;
  begun : take l.leading (drop l.left l.samples) ≡ leading (drop l.left l.samples);
  found : take l.count (drop l.first l.samples) ≡ longest (drop l.left l.samples);
}

abbrev pub decreases-loop-left : goal.decreases-loop-left
decreases-loop-left l = l.left
