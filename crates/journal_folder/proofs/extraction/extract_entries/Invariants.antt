use Rattle.std.proofs.Common.{◌≡◌, ◌++◌, map, drop}
use Rattle.std.specs.List.{filter}
use Rattle.journal_entry.specs.Entries.{entry_of}
use Rattle.journal_folder.specs.Choosing.{concerns}
use Rattle.journal_folder.proofs.extraction.extract_entries.Given as goal

-- those extracted so far and those left are all
abbrev pub invariant-loop-entry : goal.invariant-loop-entry
invariant-loop-entry l =
    map entry_of l.kept.items ++ filter (λ e. concerns l.extract.operator e.client) (map entry_of (drop l.entry-index l.early))
    ≡ filter (λ e. concerns l.extract.operator e.client) (map entry_of l.early)
