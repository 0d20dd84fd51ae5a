-- What compaction keeps of each device.
use Rattle.std.specs.Prelude.{◌≡◌, List, [], ◌∷◌, reverse, if◌then◌else◌, Result, Ok, Err}
use Rattle.mds_text.specs.Fault.{Fault}
use Rattle.mds_fleet.specs.Books.{Report as Told}
use Rattle.mds_fleet.specs.History.{row_by}
use Rattle.mds_fleet.specs.Reading.{read_report}
use Rattle.mds_request.specs.Configuration.{Configuration}
use Rattle.journal_entry.specs.Entries.{Entry}
use Rattle.journal_compaction.specs.declared.kind.Device.{Device}
use Rattle.journal_compaction.specs.declared.kind.EntryKind.{EntryKind}
use Rattle.journal_compaction.specs.declared.kind.EntryKind.TheVariants.{Report, Removal, Other}
use Rattle.journal_compaction.specs.Kinds.{kind_of}
use Rattle.journal_compaction.specs.Staying.{is_same}
use Rattle.journal_compaction.specs.Compacting.{thinned}

-- a device's reports, the last one first, after an entry of this kind, whose body reads so
abbrev pub added : Device → EntryKind → Result Told Fault → List Told → List Told
added device (Report other state) (Ok report) reports = if is_same other device then report ∷ reports else reports
added device (Report other state) (Err fault) reports = reports
added device (Removal other) read reports = if is_same other device then [] else reports
added device Other read reports = reports

-- The reports of a device since its last removal, the last one first, among entries of which the last one comes first.
abbrev pub reports_since : Configuration → Device → List Entry → List Told
reports_since configuration device [] = []
reports_since configuration device (e ∷ before) =
    added device (kind_of configuration e) (read_report e.body) (reports_since configuration device before)

-- Each device's reports in the compacted journal lead to the same row as those in the journal.
abbrev pub RowsStay : Type 0
RowsStay =
    (configuration : Configuration) (entries : List Entry) (device : Device)
    → row_by (reports_since configuration device (reverse (thinned configuration entries))) ≡ row_by (reports_since configuration device (reverse entries))
