use Rattle.std.proofs.Common.{◌≡◌, ◌++◌, map, take, drop}
use Rattle.journal_entry.specs.Entries.{entry_of}
use Rattle.journal_folder.specs.Choosing.{in_time}
use Rattle.journal_folder.proofs.extraction.count_in_time.Given as goal

-- none so far is later
abbrev pub invariant-loop-count : goal.invariant-loop-count
invariant-loop-count l =
    map entry_of (take l.count l.entries) ++ in_time l.extract.until (map entry_of (drop l.count l.entries)) ≡ in_time l.extract.until (map entry_of l.entries)
