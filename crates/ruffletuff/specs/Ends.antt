-- How a server ended, and why none was started.
use Rattle.std.specs.Prelude.{Bool, Result, Ok, Err, if◌then◌else◌}
use Rattle.cli_journal.specs.declared.exit_cause.ExitCause.{ExitCause}
use Rattle.cli_journal.specs.declared.exit_cause.ExitCause.TheVariants.{NoListener, NotKept, NoMemory, Folder, Refused}
use Rattle.server_journal.specs.declared.fault.JournalFault.{JournalFault}
use Rattle.server_journal.specs.declared.fault.JournalFault.TheVariants as faults

-- That a journal wasn't written to its end is reported before all else.
abbrev pub outcome_of : (is_kept is_served : Bool) → Result (Unit {0}) ExitCause
outcome_of is_kept is_served = if is_kept then (if is_served then Ok tt else Err NoListener) else Err NotKept

-- why the program ends where no server is started from the journal
abbrev pub ending_of_journal : JournalFault → ExitCause
ending_of_journal faults.NoMemory = NoMemory
ending_of_journal (faults.Folder fault) = Folder fault
ending_of_journal (faults.Refused fault) = Refused fault
ending_of_journal (faults.FullFleet operator fault) = Refused fault
