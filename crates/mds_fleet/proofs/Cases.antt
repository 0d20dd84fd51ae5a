-- The outcomes of a report case by case.
use Rattle.std.proofs.Common.{◌≡◌, ◌≢◌, ℕ, ◌<◌, ◌≤◌, Some, None, Result, Ok, Err}
use Rattle.std.specs.FinMap.{get, insert, len}
use Rattle.mds_match.specs.Row.{Row}
use Rattle.mds_fleet.specs.declared.book.Taken.{Taken}
use Rattle.mds_fleet.specs.declared.book.Taken.TheVariants.{New, Changed, Same}
use Rattle.mds_fleet.specs.declared.book.BookFault.{BookFault}
use Rattle.mds_fleet.specs.declared.book.BookFault.TheVariants.{Future, Stale, FleetFull, NoMemory}
use Rattle.mds_fleet.specs.Books.{Report, Rows, reported, row_from, run_start}

-- a report of a device without a row, below the limit
pub record IsNew (rows : Rows) (limit : ℕ) (report : Report) (moment : ℕ) : Type 0 where
  pub past : report.timestamp ≤ moment
  pub absent : get rows report.device ≡ None
  pub room : len rows < limit

-- a report of a device with a row, and not older than that row
pub record IsHeld (rows : Rows) (report : Report) (moment : ℕ) (row : Row) : Type 0 where
  pub past : report.timestamp ≤ moment
  pub held : get rows report.device ≡ Some row
  pub in_order : row.timestamp ≤ report.timestamp

-- what holds where a report has this outcome and leaves these rows
abbrev pub Case : Rows → ℕ → Report → ℕ → Result Taken BookFault → Rows → Type 0
Case rows limit report moment (Err Future) after =
    (moment < report.timestamp) × (after ≡ rows)
Case rows limit report moment (Err Stale) after =
    (report.timestamp ≤ moment) × ((row : Row) × (get rows report.device ≡ Some row) × (report.timestamp < row.timestamp)) × (after ≡ rows)
Case rows limit report moment (Err FleetFull) after =
    (report.timestamp ≤ moment) × (get rows report.device ≡ None) × (limit ≤ len rows) × (after ≡ rows)
Case rows limit report moment (Err NoMemory) after = after ≡ rows
Case rows limit report moment (Ok New) after =
    IsNew rows limit report moment × (after ≡ insert rows report.device (row_from report report.timestamp))
Case rows limit report moment (Ok Changed) after =
    (row : Row) × IsHeld rows report moment row × (reported row ≢ report) × (after ≡ insert rows report.device (row_from report (run_start row report)))
Case rows limit report moment (Ok Same) after =
    (row : Row) × IsHeld rows report moment row × (reported row ≡ report) × (after ≡ rows)
