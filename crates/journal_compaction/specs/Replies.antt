-- A server's answers to questions, one after another.
use Rattle.std.specs.Prelude.{◌≡◌, ◌≢◌, List, [], ◌∷◌, Option, Some}
use Rattle.mds_catalog.specs.Publication.{Publication}
use Rattle.mds_request.specs.Configuration.{Configuration}
use Rattle.mds_request.specs.Request.{Request}
use Rattle.mds_request.specs.Reply.{Reply}
use Rattle.mds_request.specs.declared.config.Actor.{Actor}
use Rattle.mds_request.specs.declared.config.Actor.TheVariants.{Author, Operator as OperatorAt, Nobody}
use Rattle.mds_desk.specs.Room.{TakesRoomTurn}
use Rattle.journal_entry.specs.Entries.{Entry}
use Rattle.journal_entry.specs.Requests.{actor_by, request_by}
use Rattle.journal_recovery.specs.Laws.{IsStartedAgain}
use Rattle.journal_recovery.specs.Recovery.{Server, DeskAnswers}

-- the author's room answers, and the desks stay
pub record RoomTells (request : Request) (reply : Reply) (s next : Server) : Type 0 where
  pub note : Option (List Publication)
  pub turn : TakesRoomTurn s.room request reply note next.room
  pub desks : next.desks ≡ s.desks

-- the author's question is answered by the room, an operator's by its desk
abbrev pub Tells : Actor → Request → Reply → Server → Server → Type 0
Tells Author request reply s next = RoomTells request reply s next
Tells (OperatorAt place) request reply s next = DeskAnswers place request reply s next
Tells Nobody request reply s next = ⊥

-- A question is answered, with its client's access token of the configuration, and the server isn't out of memory.
pub record IsTold (configuration : Configuration) (question : Entry) (reply : Reply) (s next : Server) : Type 0 where
  pub request : Request
  pub asked : request_by configuration question ≡ Some request
  pub has_memory : reply.status ≢ 503
  pub tells : Tells (actor_by configuration question.client) request reply s next

-- questions are answered, one after another
abbrev pub AreTold : Configuration → List Entry → List Reply → Server → Server → Type 0
AreTold configuration [] [] s next = next ≡ s
AreTold configuration (question ∷ questions) (reply ∷ replies) s next =
    (between : Server) × IsTold configuration question reply s between × AreTold configuration questions replies between next
AreTold configuration questions replies s next = ⊥

-- These are the replies to questions of a server that is started from entries.
abbrev pub AreReplies : Configuration → List Entry → List Entry → List Reply → Type 0
AreReplies configuration entries questions replies =
    (s : Server) × (next : Server) × IsStartedAgain configuration entries s × AreTold configuration questions replies s next
