use Rattle.std.proofs.Common.{◌≡◌, ◌++◌, map, take}
use Rattle.journal_entry.specs.Entries.{entry_of}
use Rattle.journal_compaction.specs.Questions.{drafts}
use Rattle.journal_compaction.proofs.questions.add_drafts.Given as goal

-- what was added so far
abbrev pub invariant-loop-entry : goal.invariant-loop-entry
invariant-loop-entry l =
    map entry_of l.list.items ≡ map entry_of l.initial.list.items ++ drafts l.at (map entry_of (take l.entry-index l.entries))
