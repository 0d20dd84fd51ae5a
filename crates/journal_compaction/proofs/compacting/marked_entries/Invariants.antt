use Rattle.std.proofs.Common.{◌≡◌, ◌++◌, map, drop}
use Rattle.journal_entry.specs.Entries.{entry_of}
use Rattle.journal_compaction.specs.Staying.{picked}
use Rattle.journal_compaction.proofs.compacting.marked_entries.Given as goal

-- what is kept so far, and what is to be, are all
abbrev pub invariant-loop-place : goal.invariant-loop-place
invariant-loop-place l =
    map entry_of l.kept.items ++ picked (drop l.place l.marks) (map entry_of (drop l.place l.entries)) ≡ picked l.marks (map entry_of l.entries)
