use Rattle.std.proofs.Common.{◌≡◌, map, take}
use Rattle.journal_entry.specs.Entries.{entry_of, entry_text}
use Rattle.journal_folder.proofs.journal.lent_entries_in.Given as goal

-- the payloads so far are those of the entries
abbrev pub invariant-loop-number : goal.invariant-loop-number
invariant-loop-number l = map (λ e. entry_text (entry_of e)) l.entries.items ≡ map (λ t. t.now) (take l.number l.texts)
