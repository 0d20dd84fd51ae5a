-- A log whose records are a journal of what was done.
use mathlib.Core.List.{IsPrefix}
use Rattle.std.specs.Prelude.{◌≡◌, ◌<◌, ◌+◌, ◌^◌, ℕ, zero, suc, false, List, [], ◌∷◌, ◌++◌, length, map, Some, Ok, slice_get}
use Rattle.std.specs.List.{AllByRecursion}
use Rattle.journal_commit.specs.Clients.{of_client}
use Rattle.journal_compaction.specs.Changes.{JournalChange, appended_entries, journal_after}
use Rattle.journal_compaction.specs.Compaction.{IsJournal}
use Rattle.journal_compaction.specs.Exchanged.{LeadsTo}
use Rattle.journal_entry.specs.Entries.{Entry, IsClient, IsEntry, entry_text}
use Rattle.journal_entry.specs.Requests.{client_at}
use Rattle.journal_entry.specs.declared.entry.EntryClient.{EntryClient}
use Rattle.journal_laws.specs.Persisted.{kept, requests_in}
use Rattle.journal_laws.specs.Servers.{kept_turns}
use Rattle.journal_recovery.specs.Laws.{GoesOn, IsJournalOf, IsServerOf, IsStartedAgain}
use Rattle.journal_recovery.specs.Recovery.{Server}
use Rattle.mds_catalog.specs.Publication.{Publication}
use Rattle.mds_desk.specs.Desk.{DeskState}
use Rattle.mds_desk.specs.Room.{RoomState, held_in}
use Rattle.mds_machine.specs.Fronts.{Turn}
use Rattle.mds_machine.specs.Fronts.{requests_in as turn_requests}
use Rattle.mds_machine.specs.OneHistory.{HasServed, exchanges_in as turn_exchanges}
use Rattle.mds_machine.specs.Room.{authors_in}
use Rattle.mds_machine.specs.Step.{Exchange}
use Rattle.mds_request.specs.Configuration.{Configuration, Operator, has_alike, ids, read_configuration, repeats}
use Rattle.mds_request.specs.Reply.{Reply}
use Rattle.mds_request.specs.Request.{Request}
use Rattle.mds_request.specs.declared.config.Actor.{Actor}
use Rattle.mds_request.specs.declared.config.Actor.TheVariants.{Author, Nobody, Operator as OperatorAt}
use Rattle.server_admission.specs.Actor.{index_of}
use Rattle.server_state.specs.RoomTurns.{AreRoomTurnsOf, IsToldRoomTurn, room_opened_as}
use Rattle.server_state.specs.TurnItem.{TurnItem}
use Rattle.server_state.specs.TurnList.{AreTurnsOf, IsToldTurn, opened_as}
use Rattle.server_durable.specs.Logged.{AreLogged, exchanges_in}
use Rattle.server_durable.specs.Many.{AreRecordsOf}
use Rattle.server_durable.specs.Owners.{client_in}

-- The payloads of each client in a log are the records of what it was told to be accepted, in that order, and no others:
-- of the author's exchanges, and of the turns of each operator's desk.
pub record IsLogOf (configuration : Configuration) (texts : List (List ℕ)) (history : List Exchange) (turns : ℕ → List Turn) : Type 0 where
  pub author : AreRecordsOf configuration (requests_in (kept configuration (authors_in configuration history)))
      (of_client (client_in configuration) (index_of Author) texts)
  pub operators : (place : ℕ) (operator : Operator) → slice_get configuration.operators place ≡ Some operator
      → AreRecordsOf configuration (turn_requests (kept_turns configuration (turns place)))
      (of_client (client_in configuration) (index_of (OperatorAt place)) texts)

-- A configuration in which each client can be told by its records: no two operators have the same identifier, each
-- identifier reads as it is written, and there are fewer than a machine can count.
pub record TellsClients (configuration : Configuration) : Type 0 where
  pub alone : repeats (ids configuration.operators) ≡ false
  pub written : (who : Actor) (client : EntryClient) → client_at configuration who ≡ Some client → IsClient client
  pub few : length configuration.operators < 2 ^ 62

-- A configuration that was read from a text is one, and no two of its access tokens are equal either.
abbrev pub ReadConfigurationsTellClients : Type 0
ReadConfigurationsTellClients =
    (text : List ℕ) (configuration : Configuration) → read_configuration text ≡ Ok configuration
    → TellsClients configuration × (has_alike configuration ≡ false)

-- Such a log, read as entries, is the journal of what was done.
abbrev pub LogsAreJournals : Type 0
LogsAreJournals =
    (configuration : Configuration) (entries : List Entry) (history : List Exchange) (turns : ℕ → List Turn)
    → TellsClients configuration → AllByRecursion IsEntry entries
    → IsLogOf configuration (map entry_text entries) history turns
    → IsJournalOf configuration entries history turns

-- The journal of what was done before a restart, and that of what was done behind it, are one journal.
abbrev pub JournalsGoOn : Type 0
JournalsGoOn =
    (configuration : Configuration) (entries more : List Entry) (history later : List Exchange) (turns later_turns : ℕ → List Turn)
    → IsJournalOf configuration entries history turns → IsJournalOf configuration more later later_turns
    → IsJournalOf configuration (entries ++ more) (history ++ later) (λ place. turns place ++ later_turns place)

-- The payloads of a log read as these entries: they are their texts, and each entry is within the limits of one.
pub record ReadsAs (texts : List (List ℕ)) (entries : List Entry) : Type 0 where
  pub spelled : texts ≡ map entry_text entries
  pub each : AllByRecursion IsEntry entries

-- no payload names a client that the configuration doesn't have
abbrev pub HasNoOthers : Configuration → List (List ℕ) → Type 0
HasNoOthers configuration texts = of_client (client_in configuration) (index_of Nobody) texts ≡ []

-- What one desk of a hall did since the hall was opened over it: the list of its turns begins with it, and the log's
-- payloads of its operator are the records of these turns, in their order, and no others.
pub record IsLoggedDesk (configuration : Configuration) (place : ℕ) (first after : DeskState) (items : List TurnItem) (texts : List (List ℕ)) : Type 0 where
  pub opened : IsPrefix (opened_as first) items
  pub turns : AreTurnsOf configuration place items after
  pub logged : AreLogged configuration items (of_client (client_in configuration) (index_of (OperatorAt place)) texts)

-- What a hall did since it was opened over this room and these desks, and its log. Each desk knows a prefix of what the
-- room has published. There are no other payloads.
pub record IsLoggedHall (configuration : Configuration) (s : Server) (r : RoomState) (room : List TurnItem) (desks : ℕ → DeskState)
    (items : ℕ → List TurnItem) (texts : List (List ℕ)) : Type 0 where
  pub opened : IsPrefix (room_opened_as (held_in s.room)) room
  pub turns : AreRoomTurnsOf configuration room r
  pub logged : AreLogged configuration room (of_client (client_in configuration) (index_of Author) texts)
  pub each : (place : ℕ) (operator : Operator) (d : DeskState) → slice_get configuration.operators place ≡ Some operator
      → slice_get s.desks place ≡ Some d
      → IsLoggedDesk configuration place d (desks place) (items place) texts × IsPrefix (desks place).known r.publications
  pub no_others : HasNoOthers configuration texts

-- the exchanges of these turns of each operator's desk are those of its list
abbrev pub AreOfLists : Configuration → (ℕ → List TurnItem) → (ℕ → List Turn) → Type 0
AreOfLists configuration items turns =
    (place : ℕ) (operator : Operator) → slice_get configuration.operators place ≡ Some operator
    → turn_exchanges (turns place) ≡ exchanges_in (items place)

-- Such a hall goes on from the room and the desks over which it was opened, by the turns of its lists; and its log reads
-- as entries, which are the journal of these.
abbrev pub HallsGoOn : Type 0
HallsGoOn =
    (configuration : Configuration) (s : Server) (r : RoomState) (room : List TurnItem) (desks : ℕ → DeskState) (items : ℕ → List TurnItem)
    (texts : List (List ℕ))
    → TellsClients configuration → IsServerOf configuration s → IsLoggedHall configuration s r room desks items texts
    → (entries : List Entry) × (turns : ℕ → List Turn) × ReadsAs texts entries × AreOfLists configuration items turns
    × GoesOn configuration s (exchanges_in room) r.publications turns
    × IsJournalOf configuration entries (exchanges_in room) turns

-- What the desk at this place did until its hall ended: the list of its turns begins with this opening, and the log's
-- payloads of its operator are the records of these turns, in their order, and no others. All that it knows was published.
pub record IsEndedDesk (configuration : Configuration) (publications : List Publication) (texts : List (List ℕ)) (place : ℕ)
    (opening : List TurnItem) : Type 0 where
  pub after : DeskState
  pub items : List TurnItem
  pub opened : IsPrefix opening items
  pub turns : AreTurnsOf configuration place items after
  pub logged : AreLogged configuration items (of_client (client_in configuration) (index_of (OperatorAt place)) texts)
  pub known : IsPrefix after.known publications

-- the same of the desks from this place on, each with its opening
abbrev pub AreEndedDesks : Configuration → List Publication → List (List ℕ) → ℕ → List (List TurnItem) → Type 0
AreEndedDesks configuration publications texts place [] = Unit {0}
AreEndedDesks configuration publications texts place (opening ∷ openings) =
    IsEndedDesk configuration publications texts place opening × AreEndedDesks configuration publications texts (place + 1) openings

-- the list of the desk at a place among them
abbrev pub items_at : (configuration : Configuration) (publications : List Publication) (texts : List (List ℕ)) (first : ℕ) (openings : List (List TurnItem))
    → AreEndedDesks configuration publications texts first openings → ℕ → List TurnItem
items_at configuration publications texts first [] ended place = []
items_at configuration publications texts first (opening ∷ openings) (it, ended) zero = it.items
items_at configuration publications texts first (opening ∷ openings) (it, ended) (suc place) =
    items_at configuration publications texts (first + 1) openings ended place

-- the same of all desks of these openings but those of the first ones, which are the rest
pub record AreEndedBehind (configuration : Configuration) (publications : List Publication) (texts : List (List ℕ))
    (rest openings : List (List TurnItem)) : Type 0 where
  pub ended : List (List TurnItem)
  pub openings_are : openings ≡ rest ++ ended
  pub each : AreEndedDesks configuration publications texts (length rest) ended

-- What a hall did until it ended, and its log: the list of the room's turns begins with its opening, the log's payloads
-- of the author are the records of these turns, in their order, and no others; and so of the desks, in their order.
-- There are no other payloads.
pub record EndsLogged (configuration : Configuration) (opening : List TurnItem) (openings : List (List TurnItem)) (texts : List (List ℕ)) : Type 0 where
  pub r : RoomState
  pub room : List TurnItem
  pub opened : IsPrefix opening room
  pub turns : AreRoomTurnsOf configuration room r
  pub logged : AreLogged configuration room (of_client (client_in configuration) (index_of Author) texts)
  pub desks : AreEndedDesks configuration r.publications texts 0 openings
  pub no_others : HasNoOthers configuration texts

-- the list of the desk at each place in such an end
abbrev pub lists_of : {configuration : Configuration} {opening : List TurnItem} {openings : List (List TurnItem)} {texts : List (List ℕ)}
    → EndsLogged configuration opening openings texts → ℕ → List TurnItem
lists_of {configuration} {opening} {openings} {texts} ends = items_at configuration ends.r.publications texts 0 openings ends.desks

-- A hall that was opened over this room and these desks, and so ended, goes on from these by the turns of its lists; and
-- its log reads as entries, which are the journal of these.
abbrev pub EndedHallsGoOn : Type 0
EndedHallsGoOn =
    (configuration : Configuration) (s : Server) (texts : List (List ℕ))
    → TellsClients configuration → IsServerOf configuration s
    → (ends : EndsLogged configuration (room_opened_as (held_in s.room)) (map opened_as s.desks) texts)
    → (entries : List Entry) × (turns : ℕ → List Turn) × ReadsAs texts entries × AreOfLists configuration (lists_of ends) turns
    × GoesOn configuration s (exchanges_in ends.room) ends.r.publications turns
    × IsJournalOf configuration entries (exchanges_in ends.room) turns

-- These entries are the journal of what one server did: of what was told at its room and at its desks.
pub record IsJournalOfOneServer (configuration : Configuration) (entries : List Entry) (told : List Exchange) (publications : List Publication)
    (turns : ℕ → List Turn) : Type 0 where
  pub served : HasServed configuration told publications turns
  pub journal : IsJournalOf configuration entries told turns

-- No entries are the journal of a server that did nothing yet.
abbrev pub NoEntriesAreAJournal : Type 0
NoEntriesAreAJournal = (configuration : Configuration) → IsJournalOfOneServer configuration [] [] [] (λ place. [])

-- Where such entries are the journal of what one server did, and a room and desks that were started again from them are
-- those over which a hall was opened that so ended: the hall's log reads as further entries, and all these entries are
-- the journal of what one server did, before and since. So from these the next one can be started again.
abbrev pub StoppedServersLeaveJournals : Type 0
StoppedServersLeaveJournals =
    (text : List ℕ) (configuration : Configuration) (entries : List Entry) (told : List Exchange) (publications : List Publication)
    (turns : ℕ → List Turn) (s : Server) (texts : List (List ℕ))
    → read_configuration text ≡ Ok configuration
    → IsJournalOfOneServer configuration entries told publications turns → IsStartedAgain configuration entries s
    → (ends : EndsLogged configuration (room_opened_as (held_in s.room)) (map opened_as s.desks) texts)
    → (more : List Entry) × (later : ℕ → List Turn) × ReadsAs texts more × AreOfLists configuration (lists_of ends) later
    × IsJournalOfOneServer configuration (entries ++ more) (told ++ exchanges_in ends.room) ends.r.publications (λ place. turns place ++ later place)

-- The same of a server whose journal was compacted any number of times, before it was started and while it was served.
-- All entries that were ever appended are the journal of what one server did, and a room and desks were started again
-- from what compactions had left of them. A hall that was opened over these so ended; the log had the head and what was
-- left, and then these payloads; and what its file has leads there. Then the file has what changes have left of all that
-- was appended, before and since, which is the journal of what one server did. So the next one can be started from it.
abbrev pub StoppedServersLeaveCompactedJournals : Type 0
StoppedServersLeaveCompactedJournals =
    (text : List ℕ) (configuration : Configuration) (changes : List JournalChange) (told : List Exchange) (publications : List Publication)
    (turns : ℕ → List Turn) (s : Server) (texts : List (List ℕ)) (held : List (List ℕ)) (head : List ℕ)
    → read_configuration text ≡ Ok configuration → AllByRecursion IsEntry (journal_after configuration [] changes)
    → IsJournalOfOneServer configuration (appended_entries changes) told publications turns
    → IsStartedAgain configuration (journal_after configuration [] changes) s
    → (ends : EndsLogged configuration (room_opened_as (held_in s.room)) (map opened_as s.desks) texts)
    → LeadsTo text held ((head ∷ map entry_text (journal_after configuration [] changes)) ++ texts)
    → (further : List JournalChange) × (later : ℕ → List Turn) × AreOfLists configuration (lists_of ends) later
    × IsJournal held head (journal_after configuration [] further)
    × AllByRecursion IsEntry (journal_after configuration [] further)
    × IsJournalOfOneServer configuration (appended_entries further) (told ++ exchanges_in ends.room) ends.r.publications (λ place. turns place ++ later place)

-- A turn of an operator's desk that was told, with its list, is among what that desk's list has at the end, where that
-- begins with it: so it is one of the turns whose records are the journal, behind the turns that were told before it.
abbrev pub ToldTurnsAreLeft : Type 0
ToldTurnsAreLeft =
    (configuration : Configuration) (lists : ℕ → List TurnItem) (turns : ℕ → List Turn) (place : ℕ) (operator : Operator) (request : Request)
    (reply : Reply) (items : List TurnItem)
    → AreOfLists configuration lists turns → slice_get configuration.operators place ≡ Some operator
    → (told : IsToldTurn configuration place request reply items) → IsPrefix items (lists place)
    → (after : List Exchange)
    × (turn_exchanges (turns place) ≡ exchanges_in told.before ++ record { request = request; reply = reply } ∷ after)

-- The same of the author's room: what one server did has its turns first.
abbrev pub ToldRoomTurnsAreLeft : Type 0
ToldRoomTurnsAreLeft =
    (configuration : Configuration) (room : List TurnItem) (request : Request) (reply : Reply) (items : List TurnItem)
    → (told : IsToldRoomTurn configuration request reply items) → IsPrefix items room
    → (after : List Exchange) × (exchanges_in room ≡ exchanges_in told.before ++ record { request = request; reply = reply } ∷ after)
