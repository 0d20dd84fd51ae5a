use Rattle.std.proofs.Common.{◌≡◌, ◌+◌, map, drop, length, Some}
use Rattle.journal_entry.specs.Entries.{entry_of}
use Rattle.journal_folder.specs.Choosing.{in_time}
use Rattle.journal_samples.specs.Held.{standing_of}
use Rattle.journal_samples.specs.Standing.{after_entries}
use Rattle.journal_samples.proofs.replay.OperatorReplay.advance.Given as goal

-- the entries so far are answered, and those of the ones that are left which aren't later lead to the same
abbrev pub invariant-loop-number : goal.invariant-loop-number
invariant-loop-number l = record {
  led : after_entries (standing_of l.self.standing) (in_time (Some l.at) (map entry_of (drop l.number l.entries)))
      ≡ after_entries (standing_of l.fn.self.standing) (in_time (Some l.at) (map entry_of l.entries));
  counted : l.number + length (in_time (Some l.at) (map entry_of (drop l.number l.entries))) ≡ length (in_time (Some l.at) (map entry_of l.entries));
}
