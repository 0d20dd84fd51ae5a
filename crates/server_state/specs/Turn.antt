-- A request at an operator's desk, and in the author's room.
use Rattle.std.specs.Prelude.{◌≡◌, ℕ, List, length, Option, Some, None, slice_get, Result, IfOk}
use Rattle.http.specs.declared.response.Response.{Response}
use Rattle.http_body_util.specs.declared.full.Full.{Full}
use Rattle.mds_catalog.specs.Publication.{Publication}
use Rattle.mds_request.specs.Configuration.{Configuration}
use Rattle.mds_request.specs.Request.{Request}
use Rattle.mds_request.specs.Reply.{Reply}
use Rattle.mds_desk.specs.Desk.{DeskState, Learns, TakesRun, TakesTurn}
use Rattle.mds_desk.specs.Room.{RoomState, TakesRoomTurn}
use Rattle.server_state.specs.Response.{Says}

-- The desk learns a list of publications, if there is one.
abbrev pub IsTold : DeskState → Option (List Publication) → DeskState → Type 0
IsTold d None next = next ≡ d
IsTold d (Some list) next = Learns d list next

-- The desk learns a note, if there is one, and then answers the request. The response, where there is memory for it, is
-- that of the reply.
pub record Answers {E : Type 0} (d : DeskState) (note : Option (List Publication)) (request : Request) (result : Result (Response (Full (List ℕ))) E) (next : DeskState) : Type 0 where
  pub told : DeskState
  pub reply : Reply
  pub learns : IsTold d note told
  pub turn : TakesTurn told request reply next
  pub says : IfOk result (λ response. Says response reply)

-- The same, by its reply alone.
pub record TakesToldTurn (d : DeskState) (note : Option (List Publication)) (request : Request) (reply : Reply) (next : DeskState) : Type 0 where
  pub told : DeskState
  pub learns : IsTold d note told
  pub turn : TakesTurn told request reply next

-- The same for many requests, each of which has a turn.
pub record TakesToldRun (d : DeskState) (note : Option (List Publication)) (requests : List Request) (replies : List Reply) (next : DeskState) : Type 0 where
  pub told : DeskState
  pub learns : IsTold d note told
  pub run : TakesRun told requests replies next

-- it is the desk of the operator at this index of this configuration
pub record IsDeskAt (configuration : Configuration) (place : ℕ) (d : DeskState) : Type 0 where
  pub configured : d.configuration ≡ configuration
  pub placed : d.place ≡ place

-- a desk for each operator of this configuration, in its order
pub record AreDesksOf (configuration : Configuration) (desks : List DeskState) : Type 0 where
  pub long : length desks ≡ length configuration.operators
  pub each : (place : ℕ) (d : DeskState) → slice_get desks place ≡ Some d → IsDeskAt configuration place d

-- One turn of the desk of the operator at this index of this configuration, on this request, gives the reply.
pub record DeskReplies (configuration : Configuration) (place : ℕ) (request : Request) (reply : Reply) : Type 0 where
  pub before : DeskState
  pub after : DeskState
  pub is_its : IsDeskAt configuration place before
  pub turn : TakesTurn before request reply after

-- A turn for each of these requests, in their order and with nothing between, of the desk of the operator at this index
-- of this configuration gives the replies.
pub record DeskRuns (configuration : Configuration) (place : ℕ) (requests : List Request) (replies : List Reply) : Type 0 where
  pub before : DeskState
  pub after : DeskState
  pub is_its : IsDeskAt configuration place before
  pub run : TakesRun before requests replies after

-- One turn of the author's room of this configuration, on this request, gives the reply, and a note where it publishes.
pub record RoomReplies (configuration : Configuration) (request : Request) (reply : Reply) : Type 0 where
  pub before : RoomState
  pub after : RoomState
  pub note : Option (List Publication)
  pub is_its : before.configuration ≡ configuration
  pub turn : TakesRoomTurn before request reply note after

-- the response is that of a reply of this kind
abbrev pub SaysOne : (Reply → Type 0) → Response (Full (List ℕ)) → Type 0
SaysOne Kind response = (reply : Reply) × Kind reply × Says response reply
