-- What replaying entries leads to.
use mathlib.Core.List.{IsPrefix}
use Rattle.std.specs.Prelude.{◌≡◌, ◌≢◌, ◌&&◌, ℕ, nat_eq, List, [], ◌∷◌, ◌++◌, length, Bool, true, false, if◌then◌else◌, Some, option_to_list, slice_get}
use Rattle.mds_catalog.specs.Publication.{Publication}
use Rattle.mds_drafts.specs.Drafts.{Drafts}
use Rattle.mds_fleet.specs.Books.{Rows}
use Rattle.mds_request.specs.Configuration.{Configuration, Operator, ids, repeats}
use Rattle.mds_request.specs.Request.{Request}
use Rattle.mds_request.specs.declared.config.Actor.{Actor}
use Rattle.mds_request.specs.declared.config.Actor.TheVariants.{Author, Operator as OperatorAt, Nobody}
use Rattle.mds_machine.specs.Step.{Exchange}
use Rattle.mds_machine.specs.Views.{is_of}
use Rattle.mds_machine.specs.Desks.{AreTurns}
use Rattle.mds_machine.specs.Fronts.{Turn, last_front, requests_in}
use Rattle.mds_machine.specs.OneHistory.{HasServed}
use Rattle.mds_machine.specs.Room.{AreRoomTurns, is_authors, authors_in}
use Rattle.journal_laws.specs.Persisted.{AreSuccesses, is_kept, kept}
use Rattle.journal_laws.specs.Persisted.{requests_in as room_requests_in}
use Rattle.journal_laws.specs.Servers.{AreServed, kept_turns}
use Rattle.mds_desk.specs.Desk.{DeskState, new_desks}
use Rattle.mds_desk.specs.Room.{held_in, new_room}
use Rattle.journal_entry.specs.Entries.{Entry}
use Rattle.journal_entry.specs.Requests.{actor_by, request_by, entry_by}
use Rattle.journal_recovery.specs.Recovery.{Server, AreAnswered, IsStopped}
use Rattle.journal_recovery.specs.declared.fault.StartFault.{StartFault}
use Rattle.journal_recovery.specs.declared.fault.StartFault.TheVariants.{Opening, Stopped}

abbrev pub is_actor : Actor → Actor → Bool
is_actor Author Author = true
is_actor (OperatorAt place) (OperatorAt other) = nat_eq place other
is_actor Nobody Nobody = true
is_actor actor other = false

-- the requests of one client, among entries
abbrev pub requests_by : Configuration → Actor → List Entry → List Request
requests_by configuration actor [] = []
requests_by configuration actor (e ∷ entries) =
    (if is_actor actor (actor_by configuration e.client) then option_to_list (request_by configuration e) else [])
    ++ requests_by configuration actor entries

-- What the room has done where entries were replayed: turns, all successes, on the author's requests among them.
pub record IsRoomRecovered (configuration : Configuration) (entries : List Entry) (s next : Server) : Type 0 where
  pub history : List Exchange
  pub turns : AreRoomTurns configuration (held_in s.room) history (held_in next.room)
  pub served : AreSuccesses history
  pub asked : room_requests_in history ≡ requests_by configuration Author entries
  -- they carry the author's token
  pub own : authors_in configuration history ≡ history

-- The same of a desk. It knows all that the room has published, if it did before.
pub record IsDeskRecovered (configuration : Configuration) (entries : List Entry) (s next : Server) (place : ℕ) (operator : Operator)
    (d : DeskState) : Type 0 where
  pub after : DeskState
  pub there : slice_get next.desks place ≡ Some after
  pub turns : List Turn
  pub are : AreTurns configuration place operator d.known d.rows turns after.rows
  pub served : AreServed turns
  pub asked : requests_in turns ≡ requests_by configuration (OperatorAt place) entries
  pub fronts : IsPrefix (last_front d.known turns) after.known
  pub knows : IsPrefix s.room.publications d.known → IsPrefix next.room.publications after.known

-- a room of the configuration, and a desk for each operator, in its order
pub record IsServerOf (configuration : Configuration) (s : Server) : Type 0 where
  pub room : s.room.configuration ≡ configuration
  pub long : length s.desks ≡ length configuration.operators
  pub desks : (place : ℕ) (d : DeskState) → slice_get s.desks place ≡ Some d → (d.configuration ≡ configuration) × (d.place ≡ place)

-- Entries that were replayed are turns of the room and of each desk.
abbrev pub AnsweredAreTurns : Type 0
AnsweredAreTurns =
    (configuration : Configuration) (entries : List Entry) (s next : Server) → IsServerOf configuration s
    → AreAnswered configuration entries s next
    → IsServerOf configuration next × IsRoomRecovered configuration entries s next
    × ((place : ℕ) (operator : Operator) (d : DeskState) → slice_get configuration.operators place ≡ Some operator
    → slice_get s.desks place ≡ Some d → IsDeskRecovered configuration entries s next place operator d)

-- the server that `furnish` makes
abbrev pub new_server : Configuration → Server
new_server configuration = record { room = new_room configuration; desks = new_desks configuration }

-- These entries are the journal of what a server did: of each client they have the persisted requests, in their order.
pub record IsJournalOf (configuration : Configuration) (entries : List Entry) (history : List Exchange) (turns : ℕ → List Turn) : Type 0 where
  pub author : requests_by configuration Author entries ≡ room_requests_in (kept configuration (authors_in configuration history))
  pub operators : (place : ℕ) (operator : Operator) → slice_get configuration.operators place ≡ Some operator
      → requests_by configuration (OperatorAt place) entries ≡ requests_in (kept_turns configuration (turns place))

-- the exchange is the author's, and is persisted
abbrev pub is_authors_kept : Configuration → Exchange → Bool
is_authors_kept configuration e = is_authors configuration e.request && is_kept configuration e

abbrev pub is_turn_kept : Configuration → Turn → Bool
is_turn_kept configuration turn = is_kept configuration (record { request = turn.request; reply = turn.reply })

-- no two operators have the same identifier, and this is the request's entry
abbrev pub IsEntryOf : Configuration → Request → Entry → Type 0
IsEntryOf configuration request entry = (repeats (ids configuration.operators) ≡ false) × (entry_by configuration request ≡ Some entry)

-- What a server appends at one more exchange of the author's room: its entry, where it is persisted, and nothing where
-- it isn't. Then the journal is that of what was done with this exchange too.
abbrev pub JournalGrowsByExchange : Type 0
JournalGrowsByExchange =
    (configuration : Configuration) (entries : List Entry) (history : List Exchange) (turns : ℕ → List Turn) (e : Exchange)
    → IsJournalOf configuration entries history turns
    → (is_authors_kept configuration e ≡ false → IsJournalOf configuration entries (history ++ e ∷ []) turns)
    × ((entry : Entry) → is_authors_kept configuration e ≡ true → IsEntryOf configuration e.request entry
    → IsJournalOf configuration (entries ++ entry ∷ []) (history ++ e ∷ []) turns)

-- the desk at an index has one more turn, and the others have none
pub record IsOneTurnMore (turns : ℕ → List Turn) (place : ℕ) (turn : Turn) (next : ℕ → List Turn) : Type 0 where
  pub here : next place ≡ turns place ++ turn ∷ []
  pub others : (other : ℕ) → other ≢ place → next other ≡ turns other

-- The same at one more turn of a desk, on a request of its operator where it is persisted.
abbrev pub JournalGrowsByTurn : Type 0
JournalGrowsByTurn =
    (configuration : Configuration) (entries : List Entry) (history : List Exchange) (turns next : ℕ → List Turn) (place : ℕ) (turn : Turn)
    → IsJournalOf configuration entries history turns → IsOneTurnMore turns place turn next
    → (is_turn_kept configuration turn ≡ false → IsJournalOf configuration entries history next)
    × ((entry : Entry) → is_turn_kept configuration turn ≡ true → is_of configuration place turn.request ≡ true → IsEntryOf configuration turn.request entry
    → IsJournalOf configuration (entries ++ entry ∷ []) history next)

-- Each prefix of a journal's entries, as what was synced before a crash, is the journal of a prefix of what was done:
-- of the exchanges at the room, and of the turns of each desk.
abbrev pub FrontsAreJournals : Type 0
FrontsAreJournals =
    (configuration : Configuration) (front rest : List Entry) (history : List Exchange) (turns : ℕ → List Turn)
    → IsJournalOf configuration (front ++ rest) history turns
    → (before : List Exchange) × (turns_before : ℕ → List Turn) × IsJournalOf configuration front before turns_before
    × IsPrefix before history × ((place : ℕ) → IsPrefix (turns_before place) (turns place))

-- What a journal's entries lead back to: the drafts and publications, with their moments, and each operator's rows, as
-- what was answered had left them; and the desks know all that was published.
abbrev pub LeadsBack : Configuration → List Entry → Server → Type 0
LeadsBack configuration entries next =
    (told : List Exchange) (before : List Publication) (told_turns : ℕ → List Turn)
    → (served : HasServed configuration told before told_turns) → IsJournalOf configuration entries told told_turns
    → (held_in next.room ≡ (served.drafts, before))
    × ((place : ℕ) (operator : Operator) (is : slice_get configuration.operators place ≡ Some operator)
    → (after : DeskState) × (slice_get next.desks place ≡ Some after) × (after.rows ≡ (served.desks place operator is).0)
    × IsPrefix before after.known)

abbrev pub JournalLeadsBack : Type 0
JournalLeadsBack =
    (configuration : Configuration) (entries : List Entry) (next : Server) → AreAnswered configuration entries (new_server configuration) next
    → LeadsBack configuration entries next

-- What is done from a room and desks on: exchanges at the room, and turns of each desk, whose last front is a prefix of
-- what is published.
pub record GoesOn (configuration : Configuration) (s : Server) (later : List Exchange) (publications : List Publication)
    (turns : ℕ → List Turn) : Type 0 where
  pub drafts : Drafts
  pub room : AreRoomTurns configuration (held_in s.room) later (drafts, publications)
  pub desks : (place : ℕ) (operator : Operator) (d : DeskState) → slice_get configuration.operators place ≡ Some operator
      → slice_get s.desks place ≡ Some d
      → (rows : Rows) × AreTurns configuration place operator d.known d.rows (turns place) rows
      × IsPrefix (last_front d.known (turns place)) publications

-- Over a restart there is one server: what was answered before it, and what is done after it from this room and these
-- desks on, are what one server did, so that the laws of isolation and meaning hold for its one history as for any
-- other.
abbrev pub IsOneServerFrom : Configuration → List Entry → Server → Type 0
IsOneServerFrom configuration entries s =
    (told later : List Exchange) (before publications : List Publication) (told_turns later_turns : ℕ → List Turn)
    → HasServed configuration told before told_turns → IsJournalOf configuration entries told told_turns
    → GoesOn configuration s later publications later_turns
    → HasServed configuration (told ++ later) publications (λ place. told_turns place ++ later_turns place)

abbrev pub GoesOnAsOneServer : Type 0
GoesOnAsOneServer =
    (configuration : Configuration) (entries : List Entry) (s : Server) → AreAnswered configuration entries (new_server configuration) s
    → IsOneServerFrom configuration entries s

-- Replaying entries in parts is replaying them.
abbrev pub AnsweredByParts : Type 0
AnsweredByParts =
    (configuration : Configuration) (front rest : List Entry) (s between next : Server) → AreAnswered configuration front s between
    → AreAnswered configuration rest between next → AreAnswered configuration (front ++ rest) s next

-- A room and desks that are restarted from entries: new ones replayed them, so that they are as the server left them
-- that wrote the entries.
pub record IsStartedAgain (configuration : Configuration) (entries : List Entry) (s : Server) : Type 0 where
  pub answered : AreAnswered configuration entries (new_server configuration) s
  pub placed : IsServerOf configuration s
  pub back : LeadsBack configuration entries s
  pub one : IsOneServerFrom configuration entries s

-- why a room and desks don't replay all of the entries
abbrev pub IsRefusedFrom : Configuration → List Entry → Server → StartFault → Type 0
IsRefusedFrom configuration entries s (Opening fault) = Unit {0}
IsRefusedFrom configuration entries s (Stopped fault) = (next : Server) × IsStopped configuration entries fault s next

-- why no room and desks are restarted
abbrev pub IsStartRefused : Configuration → List Entry → StartFault → Type 0
IsStartRefused configuration entries fault = IsRefusedFrom configuration entries (new_server configuration) fault
