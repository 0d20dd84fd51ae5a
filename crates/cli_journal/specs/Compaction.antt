-- Remains of a compaction that failed, and a journal that has nothing to compact.
use Rattle.std.specs.Prelude.{ℕ, Bool, true, false, List, [], ◌∷◌}
use Rattle.journal_folder.specs.declared.fault.FolderFault.TheVariants.{Locked}
use Rattle.journal_compaction.specs.declared.fault.CompactFault.{CompactFault}
use Rattle.journal_compaction.specs.declared.fault.CompactFault.TheVariants.{Folder}

-- whether a fault may leave remains: what stands next to the journal may be another program's,
-- where that one has the folder
abbrev pub may_leave_remains : CompactFault → Bool
may_leave_remains (Folder Locked) = false
may_leave_remains fault = true

-- whether a journal of these payloads isn't begun: it has no head yet, which a start writes first
abbrev pub is_unbegun : List (List ℕ) → Bool
is_unbegun [] = true
is_unbegun (head ∷ entries) = false
