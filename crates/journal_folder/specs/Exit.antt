-- The exit statuses of the faults of a folder.
use Rattle.std.specs.Prelude.{ℕ}
use Rattle.journal_entry.specs.declared.head.HeadFault.{HeadFault}
use Rattle.journal_entry.specs.declared.head.HeadFault.TheVariants as head
use Rattle.journal_file.specs.declared.journal.JournalOpenFault.{JournalOpenFault}
use Rattle.journal_file.specs.declared.journal.JournalOpenFault.TheVariants as opening
use Rattle.journal_folder.specs.declared.fault.Damage.TheVariants.{Lost, Moved, Foreign, Unexplained, TooLong, Version, NoHead}
use Rattle.journal_folder.specs.declared.fault.FolderFault.{FolderFault}
use Rattle.journal_folder.specs.declared.fault.FolderFault.TheVariants.{Unusable, Linked, Locked, NoMemory, Damaged, Unfitting}

-- 3 where out of memory, 4 for a folder that can't be used, 5 for a damaged journal, 6 for a configuration that doesn't
-- fit it
abbrev pub exit_status : FolderFault → ℕ
exit_status NoMemory = 3
exit_status Unusable = 4
exit_status Linked = 4
exit_status Locked = 4
exit_status (Damaged damage) = 5
exit_status (Unfitting unfit) = 6

-- the fault of a journal whose first payload is no head
abbrev pub fault_of_head : HeadFault → FolderFault
fault_of_head (head.Version version) = Damaged (Version version)
fault_of_head head.Malformed = Damaged NoHead
fault_of_head head.NoMemory = NoMemory

-- the fault of a journal that isn't opened: a damaged one where its contents aren't what was written, whoever opens it
abbrev pub fault_of_opening : JournalOpenFault → FolderFault
fault_of_opening (opening.Damaged said) = Damaged (Lost said)
fault_of_opening (opening.Moved place) = Damaged (Moved place)
fault_of_opening (opening.Foreign signature) = Damaged (Foreign signature)
fault_of_opening (opening.Torn whole) = Damaged (Unexplained whole)
fault_of_opening opening.NotKept = Unusable
fault_of_opening opening.TooLong = Damaged TooLong
fault_of_opening opening.Failed = Unusable
fault_of_opening opening.NoMemory = NoMemory
