-- The list of the turns of the author's room, since it was put behind its lock.
use Rattle.std.specs.Prelude.{◌≡◌, List, [], ◌∷◌, ◌++◌, map}
use Rattle.mds_catalog.specs.Publication.{Publication}
use Rattle.mds_drafts.specs.Drafts.{Drafts}
use Rattle.mds_request.specs.Configuration.{Configuration}
use Rattle.mds_request.specs.Request.{Request}
use Rattle.mds_request.specs.Reply.{Reply}
use Rattle.mds_machine.specs.Step.{Exchange}
use Rattle.mds_machine.specs.Room.{AreRoomTurns}
use Rattle.mds_desk.specs.Room.{RoomState, held_in}
use Rattle.server_state.specs.TurnItem.{TurnItem, OpenedRoom, Answered}

-- the turns of a history of the room
abbrev pub room_items : List Exchange → List TurnItem
room_items history = map (λ e. Answered e.request e.reply) history

-- the list of a room with these drafts and publications, without a turn
abbrev pub room_opened_as : Drafts × List Publication → List TurnItem
room_opened_as held = OpenedRoom held.0 held.1 ∷ []

-- The list is of the room of this configuration: from the drafts and publications with which it begins, the turns in
-- it, in their order and with no other between, lead to those of this room.
pub record AreRoomTurnsOf (configuration : Configuration) (items : List TurnItem) (r : RoomState) : Type 0 where
  pub opened : Drafts × List Publication
  pub history : List Exchange
  pub is_its : r.configuration ≡ configuration
  pub items_are : items ≡ room_opened_as opened ++ room_items history
  pub turns : AreRoomTurns configuration opened history (held_in r)

-- The turn of the room of this configuration that gives this reply to this request is the last of this list of all its
-- turns.
pub record IsToldRoomTurn (configuration : Configuration) (request : Request) (reply : Reply) (items : List TurnItem) : Type 0 where
  pub before : List TurnItem
  pub after : RoomState
  pub last : items ≡ before ++ Answered request reply ∷ []
  pub turns : AreRoomTurnsOf configuration items after
