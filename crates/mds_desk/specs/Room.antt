-- The state of the author's room, and how it changes.
use Rattle.std.specs.Prelude.{◌≡◌, ◌⊎◌, List, [], ◌∷◌, ◌++◌, Bool, true, false, Option, Some, None, IfSome, Err}
use Rattle.mds_catalog.specs.Publication.{Publication}
use Rattle.mds_drafts.specs.Drafts.{Drafts}
use Rattle.mds_drafts.specs.Values.{drafts_of}
use Rattle.mds_request.specs.Configuration.{Configuration, configuration}
use Rattle.mds_request.specs.Request.{Request}
use Rattle.mds_request.specs.Reply.{Reply, refused}
use Rattle.mds_request.specs.declared.code.Code.{Code}
use Rattle.mds_request.specs.declared.code.Code.TheVariants.{NoMemory}
use Rattle.mds_machine.specs.Step.{new_state}
use Rattle.mds_machine.specs.Room.{IsRoomTurn, room_does}
use Rattle.mds_desk.specs.declared.author.AuthorRoom.{AuthorRoom}

-- the author's room between two requests
pub record RoomState : Type 0 where
  pub configuration : Configuration
  pub drafts : Drafts
  -- what is published, in order
  pub publications : List Publication
  -- more can be published
  pub is_open : Bool

abbrev pub room_of : {K : Type 0} → AuthorRoom K → RoomState
room_of r =
    record {
      configuration = configuration r.config.value;
      drafts = drafts_of r.drafts;
      publications = r.publisher.publications;
      is_open = r.publisher.is_open;
    }

abbrev pub held_in : RoomState → Drafts × List Publication
held_in r = (r.drafts, r.publications)

-- the room refuses the request with this code, whatever its drafts and publications are
abbrev pub IsRefusedInRoom : Configuration → Request → Code → Type 0
IsRefusedInRoom configuration request code = (held : Drafts × List Publication) → room_does configuration held request ≡ Err code

-- There is a note exactly where there is one more publication, and it is of the list then.
abbrev pub IsNoted : List Publication → Option (List Publication) → List Publication → Type 0
IsNoted publications None after = after ≡ publications
IsNoted publications (Some note) after = (note ≡ after) × (p : Publication) × (after ≡ publications ++ p ∷ [])

-- The room takes one turn. Once it is closed it stays closed and returns no note; an open one closes only where memory
-- runs out, and is open after each note that it returns.
pub record TakesRoomTurn (r : RoomState) (request : Request) (reply : Reply) (note : Option (List Publication)) (next : RoomState) : Type 0 where
  pub same : next.configuration ≡ r.configuration
  pub turn : IsRoomTurn r.configuration (held_in r) request reply (held_in next)
  pub noted : IsNoted r.publications note next.publications
  pub stays_closed : r.is_open ≡ false → (next.is_open ≡ false) × (note ≡ None)
  pub stays_open : r.is_open ≡ true → (next.is_open ≡ true) ⊎ (reply ≡ refused NoMemory)
  pub open_noted : IfSome note (λ list. next.is_open ≡ true)

-- the room without drafts and publications
abbrev pub new_room : Configuration → RoomState
new_room configuration =
    record { configuration = configuration; drafts = (new_state configuration).drafts; publications = []; is_open = true }
