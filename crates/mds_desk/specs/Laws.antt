-- The one history of the author's room and all desks, from their creation on.
use mathlib.Core.List.{IsPrefix}
use Rattle.std.specs.Prelude.{◌≡◌, ℕ, List, [], ◌∷◌, ◌++◌, Option, Some, slice_get}
use Rattle.mds_catalog.specs.Publication.{Publication}
use Rattle.mds_request.specs.Configuration.{Configuration, Operator}
use Rattle.mds_request.specs.Request.{Request}
use Rattle.mds_request.specs.Reply.{Reply}
use Rattle.mds_machine.specs.Step.{State, Exchange, new_state}
use Rattle.mds_machine.specs.Fronts.{Turn, last_front, requests_in, replies_in}
use Rattle.mds_machine.specs.OneHistory.{AreItsTurns, IsHistoryOfAll}
use Rattle.mds_machine.specs.Room.{AreRoomTurns}
use Rattle.mds_desk.specs.Desk.{DeskState, TakesTurn, TakesRun, Learns, new_desk}
use Rattle.mds_desk.specs.Room.{RoomState, held_in, TakesRoomTurn, new_room}

-- a call on a desk: a request is answered, a run of requests is answered, or a list of publications is learnt
pub data Event : Type 0 where
  answered : Request → Reply → Event
  ran : List Request → List Reply → Event
  learnt : List Publication → Event

-- one event after another
abbrev pub Becomes : DeskState → List Event → DeskState → Type 0
Becomes d [] next = next ≡ d
Becomes d (answered request reply ∷ events) next =
    (between : DeskState) × TakesTurn d request reply between × Becomes between events next
Becomes d (ran requests replies ∷ events) next =
    (between : DeskState) × TakesRun d requests replies between × Becomes between events next
Becomes d (learnt list ∷ events) next =
    (between : DeskState) × Learns d list between × Becomes between events next

-- the requests to a desk in these calls, and its replies
abbrev pub asked_in : List Event → List Request
asked_in [] = []
asked_in (answered request reply ∷ events) = (request ∷ []) ++ asked_in events
asked_in (ran requests replies ∷ events) = requests ++ asked_in events
asked_in (learnt list ∷ events) = asked_in events

abbrev pub told_in : List Event → List Reply
told_in [] = []
told_in (answered request reply ∷ events) = (reply ∷ []) ++ told_in events
told_in (ran requests replies ∷ events) = replies ++ told_in events
told_in (learnt list ∷ events) = told_in events

-- exchanges at the room, one after another
abbrev pub RoomBecomes : RoomState → List Exchange → RoomState → Type 0
RoomBecomes r [] next = next ≡ r
RoomBecomes r (e ∷ history) next =
    (between : RoomState) × (note : Option (List Publication)) × TakesRoomTurn r e.request e.reply note between
    × RoomBecomes between history next

-- The calls on a new desk are its turns, with the same requests and replies, at fronts of what it knows.
abbrev pub DeskTakesItsTurns : Type 0
DeskTakesItsTurns =
    (configuration : Configuration) (place : ℕ) (operator : Operator) (events : List Event) (d : DeskState)
    → slice_get configuration.operators place ≡ Some operator → Becomes (new_desk configuration place) events d
    → (turns : List Turn) × AreItsTurns configuration place operator turns d.rows
    × (requests_in turns ≡ asked_in events) × (replies_in turns ≡ told_in events)
    × IsPrefix (last_front [] turns) d.known

-- The exchanges at a new room are its turns.
abbrev pub RoomTakesItsTurns : Type 0
RoomTakesItsTurns =
    (configuration : Configuration) (history : List Exchange) (r : RoomState)
    → RoomBecomes (new_room configuration) history r
    → AreRoomTurns configuration ((new_state configuration).drafts, []) history (held_in r)

-- The exchanges at a new room and the calls on the new desk of each operator form one history of the machine, where all
-- that a desk knows is published at the room. It consists of the turns that each desk took, and the state after it has
-- the room's drafts and each desk's rows.
abbrev pub IsOneHistoryOfAll : Type 0
IsOneHistoryOfAll =
    (configuration : Configuration) (history : List Exchange) (r : RoomState) (events : ℕ → List Event) (desks : ℕ → DeskState)
    → RoomBecomes (new_room configuration) history r
    → ((place : ℕ) (operator : Operator) → slice_get configuration.operators place ≡ Some operator
    → Becomes (new_desk configuration place) (events place) (desks place) × IsPrefix (desks place).known r.publications)
    → (turns : ℕ → List Turn)
    × ((place : ℕ) (operator : Operator) → slice_get configuration.operators place ≡ Some operator
    → AreItsTurns configuration place operator (turns place) (desks place).rows
    × (requests_in (turns place) ≡ asked_in (events place)) × (replies_in (turns place) ≡ told_in (events place)))
    × (whole : List Exchange) × (after : State) × IsHistoryOfAll configuration history r.publications turns whole after
    × (after.drafts ≡ r.drafts)
    × ((place : ℕ) (operator : Operator) → slice_get configuration.operators place ≡ Some operator
    → slice_get after.fleets place ≡ Some (desks place).rows)
