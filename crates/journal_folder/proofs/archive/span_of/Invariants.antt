use Rattle.std.proofs.Common.{◌≡◌, map, drop}
use Rattle.journal_entry.specs.Entries.{entry_of}
use Rattle.journal_folder.specs.Archives.{last_at}
use Rattle.journal_folder.proofs.archive.span_of.Given as goal

-- the last of those left, or else the last so far, is the last of all
abbrev pub invariant-loop-entry : goal.invariant-loop-entry
invariant-loop-entry l = last_at l.last (map entry_of (drop l.entry-index l.rest)) ≡ last_at l.first.at (map entry_of l.rest)
