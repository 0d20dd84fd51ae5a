-- A device's row from the list of reports and removals alone: its last accepted report, with the beginning of the
-- unbroken run of its accepted reports that have the same state.
use Rattle.std.specs.Prelude.{ℕ, nat_le, nat_lt, List, [], ◌∷◌, Bool, true, false, ◌&&◌, bytes_eq, if◌then◌else◌, Option, Some, None, filter}
use Rattle.std.specs.Set.{distinct_count}
use Rattle.mds_match.specs.Row.{Row}
use Rattle.mds_fleet.specs.Books.{Report, row_from}

-- a report with the moment at which it came, or the removal of a device
pub data Event : Type 0 where
  arrival : Report → ℕ → Event
  removal : List ℕ → Event

-- A report with a timestamp after its moment isn't accepted. Any other one is accepted, where its device has accepted
-- reports, if the last of them (the first of the list) isn't later; and where it has none, if fewer devices than the
-- limit have some.
abbrev pub is_accepted : ℕ → Report → ℕ → List Report → ℕ → Bool
is_accepted limit report moment [] held = nat_le report.timestamp moment && nat_lt held limit
is_accepted limit report moment (last ∷ earlier) held = nat_le report.timestamp moment && nat_le last.timestamp report.timestamp

-- the devices of all reports, with repeats
abbrev pub reported_devices : List Event → List (List ℕ)
reported_devices [] = []
reported_devices (arrival report moment ∷ before) = report.device ∷ reported_devices before
reported_devices (removal device ∷ before) = reported_devices before

-- whether there is a report
abbrev pub is_held : List Report → Bool
is_held [] = false
is_held (last ∷ earlier) = true

-- how many of these devices have accepted reports, each counted once
abbrev pub held_count : (List ℕ → List Report) → List (List ℕ) → ℕ
held_count reports_of devices = distinct_count bytes_eq (filter (λ device. is_held (reports_of device)) devices)

-- The accepted reports of a device after its last removal, the last one first; the events are in that order too. The
-- removal of a device without a row changes nothing.
abbrev pub accepted_reports : ℕ → List Event → List ℕ → List Report
accepted_reports limit [] device = []
accepted_reports limit (removal removed ∷ before) device = if bytes_eq device removed then [] else accepted_reports limit before device
accepted_reports limit (arrival report moment ∷ before) device =
    if bytes_eq device report.device
    && is_accepted limit report moment (accepted_reports limit before report.device) (held_count (accepted_reports limit before) (reported_devices before))
    then report ∷ accepted_reports limit before device
    else accepted_reports limit before device

-- when the run of this state began that reaches back from this time through these reports, the last one first
abbrev pub run_from : List ℕ → ℕ → List Report → ℕ
run_from state since [] = since
run_from state since (report ∷ earlier) = if bytes_eq report.state state then run_from state report.timestamp earlier else since

-- the row of a list of accepted reports: the last one, and when the run of its state began
abbrev pub row_by : List Report → Option Row
row_by [] = None
row_by (last ∷ earlier) = Some (row_from last (run_from last.state last.timestamp earlier))
