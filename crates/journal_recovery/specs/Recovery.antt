-- How a room and desks are recovered from entries: each is replayed.
use Rattle.std.specs.Prelude.{◌≡◌, ◌≢◌, ◌⊎◌, ◌≤◌, ℕ, List, [], ◌∷◌, length, map, take, Option, Some, None, slice_get, slice_set}
use Rattle.mds_catalog.specs.Publication.{Publication}
use Rattle.mds_request.specs.Configuration.{Configuration}
use Rattle.mds_request.specs.Request.{Request}
use Rattle.mds_request.specs.Reply.{Reply}
use Rattle.mds_request.specs.declared.config.Actor.{Actor}
use Rattle.mds_request.specs.declared.config.Actor.TheVariants.{Author, Operator as OperatorAt, Nobody}
use Rattle.mds_snapshot.specs.declared.history.OpeningName.{Ghosts}
use Rattle.mds_desk.specs.Desk.{DeskState, TakesTurn, Learns, state_of}
use Rattle.mds_desk.specs.Room.{RoomState, TakesRoomTurn, room_of}
use Rattle.mds_desk.specs.declared.author.AuthorRoom.{AuthorRoom}
use Rattle.mds_desk.specs.declared.desk.Desk.{Desk}
use Rattle.journal_entry.specs.Entries.{Entry}
use Rattle.journal_entry.specs.Requests.{actor_by, request_by}
use Rattle.journal_recovery.specs.declared.fault.Cause.{Cause}
use Rattle.journal_recovery.specs.declared.fault.Cause.TheVariants.{NoDesk, Refused}
use Rattle.journal_recovery.specs.declared.fault.Fault.{Fault}

-- the author's room and the desks of a server, between two entries
pub record Server : Type 0 where
  pub room : RoomState
  pub desks : List DeskState

abbrev pub server_of : {K : Type 0} {g : Ghosts K} → AuthorRoom K → List (Desk K g) → Server
server_of room desks = record { room = room_of room; desks = map state_of desks }

-- a desk learns what is noted, if something is
abbrev pub LearnsNote : Option (List Publication) → DeskState → DeskState → Type 0
LearnsNote None d next = next ≡ d
LearnsNote (Some list) d next = Learns d list next

abbrev pub AllLearn : Option (List Publication) → List DeskState → List DeskState → Type 0
AllLearn note desks next =
    (length next ≡ length desks)
    × ((place : ℕ) (d after : DeskState) → slice_get desks place ≡ Some d → slice_get next place ≡ Some after → LearnsNote note d after)

-- The room answers a request, and each desk learns what it publishes.
pub record RoomAnswers (request : Request) (reply : Reply) (s next : Server) : Type 0 where
  pub note : Option (List Publication)
  pub turn : TakesRoomTurn s.room request reply note next.room
  pub learnt : AllLearn note s.desks next.desks

-- The desk at an index answers a request. The room and the other desks stay.
pub record DeskAnswers (place : ℕ) (request : Request) (reply : Reply) (s next : Server) : Type 0 where
  pub before : DeskState
  pub after : DeskState
  pub there : slice_get s.desks place ≡ Some before
  pub turn : TakesTurn before request reply after
  pub room : next.room ≡ s.room
  pub desks : next.desks ≡ slice_set s.desks place after

-- the author's request is answered by the room, an operator's by its desk
abbrev pub Answers : Actor → Request → Reply → Server → Server → Type 0
Answers Author request reply s next = RoomAnswers request reply s next
Answers (OperatorAt place) request reply s next = DeskAnswers place request reply s next
Answers Nobody request reply s next = ⊥

-- An entry is answered, at its own moment, with its client's access token in the configuration.
abbrev pub IsAnswered : Configuration → Entry → Reply → Server → Server → Type 0
IsAnswered configuration e reply s next =
    (request : Request) × (request_by configuration e ≡ Some request)
    × Answers (actor_by configuration e.client) request reply s next

-- an entry is replayed: answered with success
abbrev pub IsAnsweredAgain : Configuration → Entry → Server → Server → Type 0
IsAnsweredAgain configuration e s next = (reply : Reply) × (reply.status ≡ 200) × IsAnswered configuration e reply s next

-- entries are replayed, one after another
abbrev pub AreAnswered : Configuration → List Entry → Server → Server → Type 0
AreAnswered configuration [] s next = next ≡ s
AreAnswered configuration (e ∷ entries) s next =
    (between : Server) × IsAnsweredAgain configuration e s between × AreAnswered configuration entries between next

abbrev pub HasNoDesk : Actor → Server → Type 0
HasNoDesk Author s = ⊥
HasNoDesk (OperatorAt place) s = length s.desks ≤ place
HasNoDesk Nobody s = Unit {0}

-- the configuration has no access token for the entry's client, or the client has no desk
abbrev pub IsWithoutDesk : Configuration → Entry → Server → Type 0
IsWithoutDesk configuration e s = (request_by configuration e ≡ None) ⊎ HasNoDesk (actor_by configuration e.client) s

-- why an entry isn't replayed
abbrev pub IsRefused : Configuration → Entry → Cause → Server → Server → Type 0
IsRefused configuration e NoDesk s next = IsWithoutDesk configuration e s × (next ≡ s)
IsRefused configuration e (Refused status) s next =
    (reply : Reply) × (reply.status ≡ status) × (status ≢ 200) × IsAnswered configuration e reply s next

-- The entries before the one that the fault names are replayed, and that one isn't.
pub record IsStopped (configuration : Configuration) (entries : List Entry) (fault : Fault) (s next : Server) : Type 0 where
  pub before : Server
  pub answered : AreAnswered configuration (take fault.entry entries) s before
  pub e : Entry
  pub there : slice_get entries fault.entry ≡ Some e
  pub refused : IsRefused configuration e fault.cause before next
