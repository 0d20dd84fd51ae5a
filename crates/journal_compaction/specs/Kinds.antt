-- The kind of an entry, for compaction: a report of a device with its state, the removal of a device, or something
-- else.
use Rattle.std.specs.Prelude.{ℕ, List, Option, Some, None, Result, Ok, Err}
use Rattle.mds_fleet.specs.Books.{Report as Told}
use Rattle.mds_fleet.specs.Reading.{read_report}
use Rattle.mds_text.specs.Fault.{Fault}
use Rattle.mds_request.specs.Call.{call_of}
use Rattle.mds_request.specs.Configuration.{Configuration}
use Rattle.mds_request.specs.Request.{Request}
use Rattle.mds_request.specs.declared.call.Call.{Call}
use Rattle.mds_request.specs.declared.call.Call.TheVariants.{Operator as OperatorAt}
use Rattle.mds_request.specs.declared.call.OperatorCall.TheVariants.{Report as Reports, RemoveVehicle}
use Rattle.mds_request.specs.declared.code.Code.{Code}
use Rattle.journal_entry.specs.Entries.{Entry}
use Rattle.journal_entry.specs.Requests.{request_by}
use Rattle.journal_compaction.specs.declared.kind.EntryKind.{EntryKind}
use Rattle.journal_compaction.specs.declared.kind.EntryKind.TheVariants.{Report, Removal, Other}

abbrev pub as_report : ℕ → Result Told Fault → EntryKind
as_report operator (Ok report) = Report (record { operator = operator; id = report.device }) report.state
as_report operator (Err fault) = Other

-- the kind of an entry with this body, reported by the operator at a place
abbrev pub reported : ℕ → List ℕ → EntryKind
reported operator body = as_report operator (read_report body)

-- the kind of a call with this body
abbrev pub kind_by : Result Call Code → List ℕ → EntryKind
kind_by (Ok (OperatorAt operator Reports)) body = reported operator body
kind_by (Ok (OperatorAt operator (RemoveVehicle id))) body = Removal (record { operator = operator; id = id })
kind_by other body = Other

abbrev pub kind_asked : Configuration → Option Request → EntryKind
kind_asked configuration None = Other
kind_asked configuration (Some request) = kind_by (call_of configuration request) request.body

-- the kind of an entry, by the operators of a configuration
abbrev pub kind_of : Configuration → Entry → EntryKind
kind_of configuration e = kind_asked configuration (request_by configuration e)
