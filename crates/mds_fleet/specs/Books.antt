-- An operator's rows, and what a report does to them.
use Rattle.std.specs.Prelude.{◌≡◌, ◌⊎◌, ℕ, nat_lt, nat_eq, List, Bool, ◌&&◌, bytes_eq, if◌then◌else◌, Option, Some, None, Result, Ok, Err}
use Rattle.std.specs.declared.cmp.Ordering.{Ordering}
use Rattle.std.specs.Ordering.{nat_cmp, int_eq}
use Rattle.std.specs.Cmp.Lexicographic.{slice_cmp, pointwise}
use Rattle.std.specs.FinMap.{FinMap, get, insert, len}
use Rattle.mds_geometry.specs.declared.position.Position.{Position}
use Rattle.mds_match.specs.Row.{Row}
use Rattle.mds_fleet.specs.declared.report.Report as program
use Rattle.mds_fleet.specs.declared.book.Taken.{Taken}
use Rattle.mds_fleet.specs.declared.book.Taken.TheVariants.{New, Changed, Same}
use Rattle.mds_fleet.specs.declared.book.BookFault.{BookFault}
use Rattle.mds_fleet.specs.declared.book.BookFault.TheVariants.{Future, Stale, FleetFull, NoMemory}

-- what a report says of a device
pub record Report : Type 0 where
  pub device : List ℕ
  pub vehicle_type : List ℕ
  pub propulsion : List (List ℕ)
  pub state : List ℕ
  pub events : List (List ℕ)
  pub timestamp : ℕ
  pub position : Position

-- the report that a `Report` of the program stands for
abbrev pub report_document : program.Report → Report
report_document r =
    record {
      device = r.device;
      vehicle_type = r.make.value.word;
      propulsion = r.make.value.types.items;
      state = r.condition.value.word;
      events = r.condition.value.types.items;
      timestamp = r.timestamp;
      position = r.position;
    }

-- device ids in the order of their bytes
abbrev pub device_cmp : List ℕ → List ℕ → Ordering
device_cmp = slice_cmp nat_cmp

-- an operator's rows, by their device ids
abbrev pub Rows : Type 0
Rows = FinMap device_cmp Row

-- the last accepted report of a row
abbrev pub reported : Row → Report
reported row =
    record {
      device = row.device;
      vehicle_type = row.vehicle_type;
      propulsion = row.propulsion;
      state = row.state;
      events = row.events;
      timestamp = row.timestamp;
      position = row.position;
    }

-- the row of a report, whose state lasts since this moment
abbrev pub row_from : Report → ℕ → Row
row_from r since =
    record {
      device = r.device;
      vehicle_type = r.vehicle_type;
      propulsion = r.propulsion;
      state = r.state;
      events = r.events;
      timestamp = r.timestamp;
      position = r.position;
      since = since;
    }

-- the run goes on where the state is the same; else it begins at the report's timestamp
abbrev pub run_start : Row → Report → ℕ
run_start row report = if bytes_eq row.state report.state then row.since else report.timestamp

-- whether two reports are equal in every member
abbrev pub is_same : Report → Report → Bool
is_same a b =
    bytes_eq a.device b.device && (bytes_eq a.vehicle_type b.vehicle_type && (pointwise bytes_eq a.propulsion b.propulsion
    && (bytes_eq a.state b.state && (pointwise bytes_eq a.events b.events && (nat_eq a.timestamp b.timestamp
    && (int_eq a.position.lng b.position.lng && int_eq a.position.lat b.position.lat))))))

-- the outcome of a report of a device with this row, if it has one, where so many devices have rows
abbrev pub outcome_at : Option Row → ℕ → ℕ → Report → Result Taken BookFault
outcome_at None held limit report = if nat_lt held limit then Ok New else Err FleetFull
outcome_at (Some row) held limit report =
    if nat_lt report.timestamp row.timestamp then Err Stale
    else if is_same (reported row) report then Ok Same
    else Ok Changed

-- The outcome of a report to an operator with this limit, unless memory runs out: a report from the future is refused
-- first, then a stale one, older than the device's row, then one of a further device in a full fleet.
abbrev pub outcome : Rows → ℕ → Report → ℕ → Result Taken BookFault
outcome rows limit report moment =
    if nat_lt moment report.timestamp then Err Future else outcome_at (get rows report.device) (len rows) limit report

-- the row of an accepted report
abbrev pub row_after : Option Row → Report → Row
row_after None report = row_from report report.timestamp
row_after (Some row) report = row_from report (run_start row report)

-- the rows that an outcome leaves
abbrev pub rows_after : Rows → Report → Result Taken BookFault → Rows
rows_after rows report (Ok New) = insert rows report.device (row_after (get rows report.device) report)
rows_after rows report (Ok Changed) = insert rows report.device (row_after (get rows report.device) report)
rows_after rows report other = rows

-- what taking a report does: its outcome, or out of memory for a further device
abbrev pub Take : Rows → ℕ → Report → ℕ → Result Taken BookFault → Rows → Type 0
Take rows limit report moment result after =
    ((result ≡ outcome rows limit report moment) ⊎ ((result ≡ Err NoMemory) × (outcome rows limit report moment ≡ Ok New)))
    × (after ≡ rows_after rows report result)
