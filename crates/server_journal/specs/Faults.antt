-- Why no server is started from a journal whose entries can't all be replayed.
use Rattle.std.specs.Prelude.{ℕ, ◌==◌, Bool, false, if◌then◌else◌, List, slice_get, Option, Some, None}
use Rattle.journal_entry.specs.declared.entry.EntryClient.{EntryClient}
use Rattle.journal_entry.specs.declared.entry.EntryClient.TheVariants.{Author, Operator}
use Rattle.journal_entry.specs.declared.entry.JournalEntry.{JournalEntry}
use Rattle.journal_recovery.specs.declared.fault.Cause.{Cause}
use Rattle.journal_recovery.specs.declared.fault.Cause.TheVariants as causes
use Rattle.journal_recovery.specs.declared.fault.Fault.{Fault}
use Rattle.journal_recovery.specs.declared.fault.StartFault.{StartFault}
use Rattle.journal_recovery.specs.declared.fault.StartFault.TheVariants.{Opening, Stopped}
use Rattle.server_journal.specs.declared.fault.JournalFault.{JournalFault}
use Rattle.server_journal.specs.declared.fault.JournalFault.TheVariants.{NoMemory, Refused, FullFleet}
use Rattle.server_journal.specs.declared.starting.TheConstants.{CONFLICT}

-- so a report of a full fleet is answered, and in replay nothing else of a journal in the order in which it was written
abbrev pub is_conflict : Cause → Bool
is_conflict causes.NoDesk = false
is_conflict (causes.Refused status) = status == CONFLICT

abbrev pub operator_of : EntryClient → Option (List ℕ)
operator_of Author = None
operator_of (Operator id) = Some id

abbrev pub operator_by : Option JournalEntry → Option (List ℕ)
operator_by None = None
operator_by (Some entry) = operator_of entry.client

-- the operator whose fleet is too full for its report to be replayed
abbrev pub full_fleet : List JournalEntry → Fault → Option (List ℕ)
full_fleet entries fault = if is_conflict fault.cause then operator_by (slice_get entries fault.entry) else None

abbrev pub fault_by : Option (List ℕ) → Fault → JournalFault
fault_by None fault = Refused fault
fault_by (Some operator) fault = FullFleet operator fault

abbrev pub fault_of : List JournalEntry → StartFault → JournalFault
fault_of entries (Opening fault) = NoMemory
fault_of entries (Stopped fault) = fault_by (full_fleet entries fault) fault
