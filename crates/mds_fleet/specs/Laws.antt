-- Laws of what reports do to an operator's rows.
use Rattle.std.specs.Prelude.{◌≡◌, ◌≢◌, ℕ, ◌≤◌, ◌↔◌, List, [], ◌∷◌}
use Rattle.std.specs.FinMap.{empty, get, len, remove}
use Rattle.mds_fleet.specs.Books.{Report, Rows, outcome, rows_after}
use Rattle.mds_fleet.specs.History.{Event, arrival, removal, accepted_reports, row_by}

-- rows within their limit stay within it
abbrev pub KeepsLimit : Type 0
KeepsLimit =
    (rows : Rows) (limit : ℕ) (report : Report) (moment : ℕ)
    → len rows ≤ limit → len (rows_after rows report (outcome rows limit report moment)) ≤ limit

-- a report changes no other device's row
abbrev pub LeavesOthers : Type 0
LeavesOthers =
    (rows : Rows) (limit : ℕ) (report : Report) (moment : ℕ) (device : List ℕ)
    → device ≢ report.device → get (rows_after rows report (outcome rows limit report moment)) device ≡ get rows device

-- what an event makes of the rows: a report is taken, a removal removes its device's row
abbrev pub Follows : ℕ → Event → Rows → Rows → Type 0
Follows limit (arrival report moment) rows after = after ≡ rows_after rows report (outcome rows limit report moment)
Follows limit (removal device) rows after = after ≡ remove rows device

-- the rows that events result in from no rows on, the last event first
abbrev pub Leads : ℕ → List Event → Rows → Type 0
Leads limit [] rows = rows ≡ empty
Leads limit (event ∷ before) rows = (earlier : Rows) × Leads limit before earlier × Follows limit event earlier rows

-- the law of books: each device's row follows from its accepted reports
abbrev pub FollowsHistory : Type 0
FollowsHistory =
    (limit : ℕ) (events : List Event) (rows : Rows) (device : List ℕ)
    → Leads limit events rows → get rows device ≡ row_by (accepted_reports limit events device)

-- each list of events results in rows
abbrev pub AlwaysLeads : Type 0
AlwaysLeads = (limit : ℕ) (events : List Event) → (rows : Rows) × Leads limit events rows

-- One more event leads from the rows that events result in to just what it makes of them.
abbrev pub LeadsOn : Type 0
LeadsOn =
    (limit : ℕ) (before : List Event) (event : Event) (rows after : Rows)
    → Leads limit before rows → (Leads limit (event ∷ before) after ↔ Follows limit event rows after)
