use Rattle.std.proofs.Common.{◌≡◌, ◌++◌, map, drop}
use Rattle.journal_entry.specs.Entries.{entry_of}
use Rattle.journal_folder.specs.Choosing.{without}
use Rattle.journal_folder.proofs.extraction.without_operators.Given as goal

-- those taken so far and those left are all
abbrev pub invariant-loop-entry : goal.invariant-loop-entry
invariant-loop-entry l =
    map entry_of l.kept.items ++ without l.dropped (map entry_of (drop l.entry-index l.entries)) ≡ without l.dropped (map entry_of l.entries)
