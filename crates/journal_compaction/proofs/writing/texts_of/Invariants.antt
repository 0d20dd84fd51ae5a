use Rattle.std.proofs.Common.{◌≡◌, map, take}
use Rattle.journal_entry.specs.Entries.{entry_of, entry_text}
use Rattle.journal_compaction.proofs.writing.texts_of.Given as goal

-- the payloads of the entries so far
abbrev pub invariant-loop-entry : goal.invariant-loop-entry
invariant-loop-entry l = map (λ t. t.items) l.texts.items ≡ map (λ e. entry_text (entry_of e)) (take l.entry-index l.entries)
