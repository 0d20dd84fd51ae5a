use Rattle.std.proofs.Common.{◌≡◌, map, drop}
use Rattle.journal_entry.specs.Entries.{entry_of}
use Rattle.journal_folder.specs.Latest.{latest, latest_from}
use Rattle.journal_folder.proofs.latest.latest_moment.Given as goal

-- the latest so far, and of those that are left, is that of all
abbrev pub invariant-loop-entry : goal.invariant-loop-entry
invariant-loop-entry l = latest_from l.last (map entry_of (drop l.entry-index l.entries)) ≡ latest (map entry_of l.entries)
