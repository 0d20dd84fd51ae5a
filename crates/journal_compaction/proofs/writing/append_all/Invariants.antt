use Rattle.std.proofs.Common.{ℕ, ◌-◌, ◌≤◌, ◌++◌, List, length, map, take}
use Rattle.journal_entry.specs.Entries.{entry_of, entry_text}
use Rattle.journal_compaction.proofs.writing.append_all.Given as goal

-- the entries so far are appended
abbrev pub invariant-loop-start : goal.invariant-loop-start
invariant-loop-start g l =
    record {
      within : l.start ≤ length l.entries;
      appended : (list : List (List ℕ)) → g.L.Log.may_be l.initial.log list
          → g.L.Log.may_be l.log (list ++ map (λ e. entry_text (entry_of e)) (take l.start l.entries));
    }

abbrev pub decreases-loop-start : goal.decreases-loop-start
decreases-loop-start g l = length l.entries - l.start
