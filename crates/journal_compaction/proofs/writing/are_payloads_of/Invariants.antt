use Rattle.std.proofs.Common.{◌≡◌, map, take}
use Rattle.journal_entry.specs.Entries.{entry_of, entry_text}
use Rattle.journal_compaction.proofs.writing.are_payloads_of.Given as goal

-- the payloads so far are those of the entries
abbrev pub invariant-loop-place : goal.invariant-loop-place
invariant-loop-place l = map (λ t. t.items) (take l.place l.texts) ≡ map (λ e. entry_text (entry_of e)) (take l.place l.entries)
