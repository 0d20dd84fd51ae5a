use Rattle.std.proofs.Common.{◌≡◌, ◌≤◌, ◌++◌, map, drop, length}
use Rattle.journal_entry.specs.Entries.{entry_of}
use Rattle.journal_samples.specs.Held.{standing_of}
use Rattle.journal_samples.proofs.Along.{along}
use Rattle.journal_samples.proofs.replay.OperatorReplay.samples.Given as goal

-- the samples so far, and those of the moments that are left over the entries that are left, are all
abbrev pub invariant-loop-at : goal.invariant-loop-at
invariant-loop-at l = record {
  within : l.done ≤ length l.entries;
  told : l.found.items ++ along (standing_of l.self.standing) (map entry_of (drop l.done l.entries)) (drop l.at-index l.moments)
      ≡ along (standing_of l.fn.self.standing) (map entry_of l.entries) l.moments;
}
