use Rattle.std.proofs.Common.{◌≡◌, map, take}
use Rattle.std.specs.List.{AllByRecursion}
use Rattle.journal_entry.specs.Entries.{IsEntry, entry_of, entry_text}
use Rattle.journal_folder.proofs.journal.entries_in.Given as goal

-- the payloads so far are those of the entries, which are within their limits
abbrev pub invariant-loop-number : goal.invariant-loop-number
invariant-loop-number l =
    record {
      texts : map (λ e. entry_text (entry_of e)) l.entries.items ≡ map (λ t. t.items) (take l.number l.texts);
      each : AllByRecursion IsEntry (map entry_of l.entries.items);
    }
