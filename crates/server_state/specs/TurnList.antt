-- The list of the turns of a desk, since it was put behind its lock.
use Rattle.std.specs.Prelude.{◌≡◌, ℕ, List, [], ◌∷◌, ◌++◌}
use Rattle.mds_request.specs.Configuration.{Configuration}
use Rattle.mds_request.specs.Request.{Request}
use Rattle.mds_request.specs.Reply.{Reply}
use Rattle.mds_desk.specs.Desk.{DeskState}
use Rattle.mds_desk.specs.Laws.{Event, Becomes, answered, ran, learnt}
use Rattle.server_state.specs.Turn.{IsDeskAt}
use Rattle.server_state.specs.TurnItem.{TurnItem, Opened, Answered, Ran}

-- the turns among the calls on a desk
abbrev pub items_of : List Event → List TurnItem
items_of [] = []
items_of (answered request reply ∷ events) = Answered request reply ∷ items_of events
items_of (ran requests replies ∷ events) = Ran requests replies ∷ items_of events
items_of (learnt list ∷ events) = items_of events

-- the list of a desk without a turn
abbrev pub opened_as : DeskState → List TurnItem
opened_as d = Opened d.known d.rows ∷ []

-- The list is of the desk of the operator at this index of this configuration: from the state with which it begins, the
-- turns in it, in their order and with no other between, lead to this desk.
pub record AreTurnsOf (configuration : Configuration) (place : ℕ) (items : List TurnItem) (d : DeskState) : Type 0 where
  pub first : DeskState
  pub events : List Event
  pub is_its : IsDeskAt configuration place first
  pub items_are : items ≡ opened_as first ++ items_of events
  pub becomes : Becomes first events d

-- The turn of the desk of the operator at this index of this configuration that gives this reply to this request is the
-- last of this list of all its turns.
pub record IsToldTurn (configuration : Configuration) (place : ℕ) (request : Request) (reply : Reply) (items : List TurnItem) : Type 0 where
  pub before : List TurnItem
  pub after : DeskState
  pub last : items ≡ before ++ Answered request reply ∷ []
  pub turns : AreTurnsOf configuration place items after
