-- The exit statuses, and the first line on standard error at each end.
use Rattle.std.specs.Prelude.{ℕ, ◌==◌, List, codes, if◌then◌else◌, Result, Ok, Err}
use Rattle.journal_folder.specs.Exit as folder
use Rattle.journal_folder.specs.declared.fault.FolderFault.{FolderFault}
use Rattle.journal_folder.specs.declared.fault.FolderFault.TheVariants as faults
use Rattle.journal_recovery.specs.declared.fault.Cause.{Cause}
use Rattle.journal_recovery.specs.declared.fault.Cause.TheVariants as causes
use Rattle.journal_recovery.specs.declared.fault.StartFault.{StartFault}
use Rattle.journal_recovery.specs.declared.fault.StartFault.TheVariants.{Opening, Stopped}
use Rattle.journal_compaction.specs.declared.fault.CompactFault.{CompactFault}
use Rattle.journal_compaction.specs.declared.fault.CompactFault.TheVariants as thin
use Rattle.cli_journal.specs.declared.exit_cause.ExitCause.{ExitCause}
use Rattle.cli_journal.specs.declared.exit_cause.ExitCause.TheVariants.{Usage, Misconfigured, NoOversight, NoPage, NoMemory, NoListener, NoControl, NotStopped, NotPrinted, Folder, Refused, NotKept, NotWhole, NotThinned, Differs, NoArchive, NotArchived, ReportFolder, ReportEntry, Report}
use Rattle.cli_journal.specs.Reports.{report_status, report_message}

-- an entry that can't be replayed: 503 is out of memory, and any other is one of another configuration
abbrev pub cause_status : Cause → ℕ
cause_status causes.NoDesk = 6
cause_status (causes.Refused status) = if status == 503 then 3 else 6

-- 1 for what can't be listened to or written to, 2 for wrong arguments or a wrong configuration, 3 for out of memory, 4
-- to 6 for a folder, 7 where a journal couldn't be written or archived, or isn't known to have all that was answered, 8
-- where a compacted one leads to another state
abbrev pub exit_status : ExitCause → ℕ
exit_status NoListener = 1
exit_status NoControl = 1
exit_status NotStopped = 1
exit_status NotPrinted = 1
exit_status Usage = 2
exit_status (Misconfigured detail) = 2
exit_status NoOversight = 2
exit_status NoPage = 2
exit_status NoMemory = 3
exit_status NoArchive = 4
exit_status (Folder fault) = folder.exit_status fault
exit_status (Refused fault) = cause_status fault.cause
exit_status NotKept = 7
exit_status NotWhole = 7
exit_status NotThinned = 7
exit_status (NotArchived fault) = 7
exit_status Differs = 8
exit_status (ReportFolder place fault) = folder.exit_status fault
exit_status (ReportEntry place fault) = cause_status fault.cause
exit_status (Report fault) = report_status fault

abbrev pub status_of : Result ℕ ExitCause → ℕ
status_of (Ok status) = status
status_of (Err ending) = exit_status ending

abbrev pub out_of_memory : List ℕ
out_of_memory = codes "ruffletuff: memory ran out"

abbrev pub does_not_fit : List ℕ
does_not_fit = codes "ruffletuff: the configuration doesn't fit the journal"

abbrev pub cause_message : Cause → List ℕ
cause_message causes.NoDesk = does_not_fit
cause_message (causes.Refused status) = if status == 503 then out_of_memory else does_not_fit

abbrev pub folder_message : FolderFault → List ℕ
folder_message faults.NoMemory = out_of_memory
folder_message faults.Unusable = codes "ruffletuff: the folder can't be used"
folder_message faults.Linked = codes "ruffletuff: a file of the folder is a link, or none"
folder_message faults.Locked = codes "ruffletuff: another program has the folder"
folder_message (faults.Damaged damage) = codes "ruffletuff: the journal is damaged, or of another version"
folder_message (faults.Unfitting unfit) = does_not_fit

abbrev pub message_of : ExitCause → List ℕ
message_of Usage = codes "ruffletuff: the arguments are wrong"
message_of (Misconfigured detail) = codes "ruffletuff: the configuration is wrong"
message_of NoOversight = codes "ruffletuff: the configuration is wrong"
message_of NoPage = codes "ruffletuff: the configuration is wrong"
message_of NoMemory = out_of_memory
message_of NoListener = codes "ruffletuff: nothing can be listened to"
message_of NoControl = codes "ruffletuff: nothing can be listened to for control"
message_of NotStopped = codes "ruffletuff: no server says that it stops"
message_of NotPrinted = codes "ruffletuff: standard output can't be written"
message_of (Folder fault) = folder_message fault
message_of (Refused fault) = cause_message fault.cause
message_of NotKept = codes "ruffletuff: the journal couldn't be written any more"
message_of NotWhole = codes "ruffletuff: the journal isn't known to have all that was answered"
message_of NotThinned = codes "ruffletuff: the thinned journal couldn't be written"
message_of Differs = codes "ruffletuff: the thinned journal leads to another city"
message_of NoArchive = codes "ruffletuff: the archive can't be used"
message_of (NotArchived fault) = codes "ruffletuff: the journal can't be archived, and isn't thinned"
message_of (ReportFolder place fault) = folder_message fault
message_of (ReportEntry place fault) = cause_message fault.cause
message_of (Report fault) = report_message fault

-- why a program ends whose server can't be started from its journal
abbrev pub ending_of : StartFault → ExitCause
ending_of (Opening fault) = NoMemory
ending_of (Stopped fault) = Refused fault

-- why it ends where an entry of a compacted journal can't be replayed
abbrev pub cause_of_thinned : Cause → ExitCause
cause_of_thinned causes.NoDesk = Differs
cause_of_thinned (causes.Refused status) = if status == 503 then NoMemory else Differs

abbrev pub ending_of_thinned : StartFault → ExitCause
ending_of_thinned (Opening fault) = NoMemory
ending_of_thinned (Stopped fault) = cause_of_thinned fault.cause

-- why it ends where a journal isn't compacted, by a configuration that was read before
abbrev pub ending_of_thinning : CompactFault → ExitCause
ending_of_thinning thin.NoMemory = NoMemory
ending_of_thinning (thin.Configuration fault) = NoMemory
ending_of_thinning (thin.Folder fault) = Folder fault
ending_of_thinning (thin.OldRefused fault) = ending_of fault
ending_of_thinning thin.NotWritten = NotThinned
ending_of_thinning (thin.NewRefused fault) = ending_of_thinned fault
ending_of_thinning thin.Differs = Differs
ending_of_thinning (thin.NotArchived fault) = NotArchived fault
