-- The state of a desk, and how it changes.
use mathlib.Core.List.{IsPrefix}
use Rattle.std.specs.Prelude.{◌≡◌, ◌⊎◌, ℕ, List, [], length, map, Some, slice_get}
use Rattle.std.specs.FinMap.{empty}
use Rattle.std.specs.List.{range_with_len}
use Rattle.mds_catalog.specs.Publication.{Publication}
use Rattle.mds_fleet.specs.Books.{Rows}
use Rattle.mds_request.specs.Configuration.{Configuration, Operator, configuration}
use Rattle.mds_request.specs.Request.{Request}
use Rattle.mds_request.specs.Reply.{Reply, refused}
use Rattle.mds_request.specs.declared.code.Code.{Code}
use Rattle.mds_request.specs.declared.code.Code.TheVariants.{NoMemory, NoSnapshot}
use Rattle.mds_machine.specs.Desks.{desk_does, IsTurn, IsRun}
use Rattle.mds_snapshot.specs.declared.history.OpeningName.{Ghosts}
use Rattle.mds_desk.specs.declared.desk.Desk.{Desk}

-- a desk between two requests
pub record DeskState : Type 0 where
  pub configuration : Configuration
  -- the operator's place in it
  pub place : ℕ
  -- all publications that were seen or learnt, in order
  pub known : List Publication
  -- the operator's rows
  pub rows : Rows

abbrev pub state_of : {K : Type 0} {g : Ghosts K} → Desk K g → DeskState
state_of d =
    record {
      configuration = configuration d.context.config.value;
      place = d.context.place;
      known = d.pane;
      rows = d.book.rows;
    }

-- it is a desk of the same operator
pub record IsSameDesk (d next : DeskState) : Type 0 where
  pub configuration : next.configuration ≡ d.configuration
  pub place : next.place ≡ d.place

-- the reply is what the desk does at the front that it knows afterwards, or out of memory, where the rows don't change
abbrev pub IsAnsweredAt : DeskState → Request → Reply → DeskState → Operator → Type 0
IsAnsweredAt d request reply next operator =
    let does = desk_does d.configuration d.place operator next.known d.rows request in
    ((reply ≡ does.0) × (next.rows ≡ does.1)) ⊎ ((reply ≡ refused NoMemory) × (next.rows ≡ d.rows))

-- the desk at this place refuses the request with this code, at any front and with any rows
abbrev pub IsRefusedAt : Configuration → ℕ → Request → Code → Type 0
IsRefusedAt configuration place request code =
    (operator : Operator) (front : List Publication) (rows : Rows)
    → desk_does configuration place operator front rows request ≡ (refused code, rows)

-- A desk takes one turn, at the front that it knows afterwards. The refusal for want of a snapshot comes only from a
-- desk that saw nothing new: it is unchanged.
pub record TakesTurn (d : DeskState) (request : Request) (reply : Reply) (next : DeskState) : Type 0 where
  pub same : IsSameDesk d next
  pub turn : (operator : Operator) → slice_get d.configuration.operators d.place ≡ Some operator
      → IsTurn d.configuration d.place operator d.known d.rows (record { request = request; front = next.known; reply = reply }) next.rows
  pub shown : ((reply ≡ refused NoSnapshot) × (next ≡ d))
      ⊎ ((operator : Operator) → slice_get d.configuration.operators d.place ≡ Some operator → IsAnsweredAt d request reply next operator)

-- A desk takes a turn for each of these requests, in order.
pub record TakesRun (d : DeskState) (requests : List Request) (replies : List Reply) (next : DeskState) : Type 0 where
  pub same : IsSameDesk d next
  pub run : (operator : Operator) → slice_get d.configuration.operators d.place ≡ Some operator
      → IsRun d.configuration d.place operator d.known d.rows requests replies next.known next.rows

-- A desk learns a list of publications: what it knew and the list are both prefixes of what it knows then, which is one
-- of the two. Its rows don't change.
pub record Learns (d : DeskState) (list : List Publication) (next : DeskState) : Type 0 where
  pub same : IsSameDesk d next
  pub kept : IsPrefix d.known next.known
  pub told : IsPrefix list next.known
  pub one : (next.known ≡ d.known) ⊎ (next.known ≡ list)
  pub rows : next.rows ≡ d.rows

-- the desk at this place that knows no publications and has no rows
abbrev pub new_desk : Configuration → ℕ → DeskState
new_desk configuration place = record { configuration = configuration; place = place; known = []; rows = empty }

-- a new desk for each operator, in the order of the configuration
abbrev pub new_desks : Configuration → List DeskState
new_desks configuration = map (new_desk configuration) (range_with_len 0 (length configuration.operators))
