-- Servers one after another that write one journal. Each begins with what it finds in the journal, and ends where it is
-- killed, or where another one has become the journal's owner: a takeover is a restart elsewhere.
use mathlib.Core.List.{IsPrefix}
use Rattle.std.specs.Prelude.{◌≡◌, ◌==◌, ℕ, List, [], ◌∷◌, ◌++◌, if◌then◌else◌, Some, slice_get}
use Rattle.mds_catalog.specs.Publication.{Publication}
use Rattle.mds_drafts.specs.Drafts.{Drafts}
use Rattle.mds_request.specs.Configuration.{Configuration, Operator}
use Rattle.mds_request.specs.declared.config.Actor.TheVariants.{Author, Operator as OperatorAt}
use Rattle.mds_machine.specs.Step.{Exchange}
use Rattle.mds_machine.specs.Fronts.{Turn, last_front, requests_in}
use Rattle.mds_machine.specs.OneHistory.{HasServed, exchanges_in}
use Rattle.mds_machine.specs.Room.{AreRoomTurns, IsRoomTurn, authors_in}
use Rattle.journal_laws.specs.Persisted.{kept}
use Rattle.journal_laws.specs.Persisted.{requests_in as room_requests_in}
use Rattle.journal_laws.specs.Servers.{kept_turns}
use Rattle.mds_desk.specs.Desk.{DeskState}
use Rattle.mds_desk.specs.Room.{held_in}
use Rattle.journal_entry.specs.Entries.{Entry}
use Rattle.journal_recovery.specs.Recovery.{Server}
use Rattle.journal_recovery.specs.Laws.{GoesOn, IsJournalOf, IsOneServerFrom, requests_by}

-- what a server did: the exchanges at its room, the publications after them, and the turns of each desk
pub record Work : Type 0 where
  pub exchanges : List Exchange
  pub publications : List Publication
  pub turns : ℕ → List Turn

-- it was done from this room and these desks on
abbrev pub IsWorkFrom : Configuration → Server → Work → Type 0
IsWorkFrom configuration s work = GoesOn configuration s work.exchanges work.publications work.turns

-- these exchanges at the room, from this one on, left these publications
abbrev pub HavePublished : Configuration → Server → List Exchange → List Publication → Type 0
HavePublished configuration s exchanges publications =
    (drafts : Drafts) × AreRoomTurns configuration (held_in s.room) exchanges (drafts, publications)

-- the first of what was done: of the exchanges, and of each desk's turns
pub record IsFirstOf (first whole : Work) : Type 0 where
  pub exchanges : IsPrefix first.exchanges whole.exchanges
  pub turns : (place : ℕ) → IsPrefix (first.turns place) (whole.turns place)

-- The beginning of what a server did from a room and desks on: the first of it, with the publications that the
-- exchanges left, where each desk's last front lies within these. What a server told until its end, and what the
-- journal has of it, is so: a publication is in the journal before a desk answers at it, so that nothing is told at this
-- front, and no record of a turn there stands, where the publication's doesn't (`FirstStepsAreABeginning`).
pub record IsBeginning (configuration : Configuration) (s : Server) (first whole : Work) : Type 0 where
  pub order : IsFirstOf first whole
  pub published : HavePublished configuration s first.exchanges first.publications
  pub within : (place : ℕ) (operator : Operator) (d : DeskState)
      → slice_get configuration.operators place ≡ Some operator → slice_get s.desks place ≡ Some d
      → IsPrefix (last_front d.known (first.turns place)) first.publications

-- The first of a server's exchanges left some publications, which all of them together left in front.
abbrev pub PrefixesHavePublished : Type 0
PrefixesHavePublished =
    (configuration : Configuration) (s : Server) (first rest : List Exchange) (publications : List Publication)
    → HavePublished configuration s (first ++ rest) publications
    → (shown : List Publication) × HavePublished configuration s first shown × IsPrefix shown publications

-- Such a beginning is what a server did.
abbrev pub PrefixesGoOn : Type 0
PrefixesGoOn =
    (configuration : Configuration) (s : Server) (first whole : Work) → IsWorkFrom configuration s whole
    → IsBeginning configuration s first whole → IsWorkFrom configuration s first

-- one step of a server: an exchange at its room, or a turn of the desk at a place
pub data WorkStep : Type 0 where
  at_room : Exchange → WorkStep
  at_desk : ℕ → Turn → WorkStep

abbrev pub exchanges_at : List WorkStep → List Exchange
exchanges_at [] = []
exchanges_at (at_room e ∷ steps) = e ∷ exchanges_at steps
exchanges_at (at_desk place turn ∷ steps) = exchanges_at steps

abbrev pub turns_at : List WorkStep → ℕ → List Turn
turns_at [] place = []
turns_at (at_room e ∷ steps) place = turns_at steps place
turns_at (at_desk other turn ∷ steps) place =
    if place == other then turn ∷ turns_at steps place else turns_at steps place

-- The steps of a server in one order, in which a desk answers only at what was published before: as in that of its
-- journal, where a publication is persisted before it is shown.
abbrev pub AreOrdered : Configuration → Drafts × List Publication → List WorkStep → Type 0
AreOrdered configuration held [] = Unit {0}
AreOrdered configuration held (at_room e ∷ steps) =
    (after : Drafts × List Publication) × IsRoomTurn configuration held e.request e.reply after
    × AreOrdered configuration after steps
AreOrdered configuration held (at_desk place turn ∷ steps) =
    IsPrefix turn.front held.1 × AreOrdered configuration held steps

abbrev pub work_of : List WorkStep → List Publication → Work
work_of steps publications =
    record { exchanges = exchanges_at steps; publications = publications; turns = turns_at steps }

-- Where each desk knows only what the room has published, the first of such steps are a beginning of all of them,
-- wherever they end.
abbrev pub FirstStepsAreABeginning : Type 0
FirstStepsAreABeginning =
    (configuration : Configuration) (s : Server) (first rest : List WorkStep) (publications : List Publication)
    → AreOrdered configuration (held_in s.room) (first ++ rest)
    → ((place : ℕ) (d : DeskState) → slice_get s.desks place ≡ Some d → IsPrefix d.known s.room.publications)
    → (shown : List Publication)
    × IsBeginning configuration s (work_of first shown) (work_of (first ++ rest) publications)

-- of each client, the persisted requests of what was told are the first that the entries have
pub record HaveRecordsOf (configuration : Configuration) (entries : List Entry) (told : Work) : Type 0 where
  pub author : IsPrefix (room_requests_in (kept configuration (authors_in configuration told.exchanges)))
      (requests_by configuration Author entries)
  pub operators : (place : ℕ) (operator : Operator) → slice_get configuration.operators place ≡ Some operator
      → IsPrefix (requests_in (kept_turns configuration (told.turns place)))
      (requests_by configuration (OperatorAt place) entries)

-- Where a prefix of a server's entries has the records of all that it told, this prefix is the journal of the first of
-- what it did, with all that it told.
abbrev pub PrefixesIncludeReplies : Type 0
PrefixesIncludeReplies =
    (configuration : Configuration) (s : Server) (front rest : List Entry) (told whole : Work)
    → IsWorkFrom configuration s whole → IsJournalOf configuration (front ++ rest) whole.exchanges whole.turns
    → IsFirstOf told whole → HaveRecordsOf configuration front told
    → (first : Work) × IsJournalOf configuration front first.exchanges first.turns
    × IsFirstOf told first × IsFirstOf first whole
    × HavePublished configuration s first.exchanges first.publications

-- What one server did, and these entries are its journal.
pub record IsOneServersWork (configuration : Configuration) (entries : List Entry) (work : Work) : Type 0 where
  pub served : HasServed configuration work.exchanges work.publications work.turns
  pub journal : IsJournalOf configuration entries work.exchanges work.turns

-- Each prefix of these entries is the journal of what one server did, whatever the fronts of turns: of the first
-- exchanges, and of each desk's persisted turns among the first ones, with the replies that they had.
abbrev pub PrefixesAreOfOneServer : Type 0
PrefixesAreOfOneServer =
    (configuration : Configuration) (front rest : List Entry) (whole : Work)
    → IsOneServersWork configuration (front ++ rest) whole
    → (first : Work) × IsOneServersWork configuration front first × IsPrefix first.exchanges whole.exchanges
    × ((place : ℕ) (operator : Operator) → slice_get configuration.operators place ≡ Some operator
    → (before : List Turn) × IsPrefix before (whole.turns place)
    × (exchanges_in (first.turns place) ≡ exchanges_in (kept_turns configuration before)))

-- One owner's reign: the room and desks that it was started over, what it did, what of this stands, and the entries of
-- what stands.
pub record Reign : Type 0 where
  pub s : Server
  pub work : Work
  pub first : Work
  pub entries : List Entry

-- A reign behind these entries of all before it. The owner was started so that what these tell and what it does from
-- there on are what one server did: as one is that was started again from them (`IsStartedAgain`), or from what
-- compaction left of them. Of what it did a beginning stands, and its entries are the journal of this: so the next
-- owner finds them behind those.
pub record IsReign (configuration : Configuration) (found : List Entry) (reign : Reign) : Type 0 where
  pub started : IsOneServerFrom configuration found reign.s
  pub done : IsWorkFrom configuration reign.s reign.work
  pub stands : IsBeginning configuration reign.s reign.first reign.work
  pub journal : IsJournalOf configuration reign.entries reign.first.exchanges reign.first.turns

-- reigns one after another, the first of which is behind these entries
abbrev pub AreReigns : Configuration → List Entry → List Reign → Type 0
AreReigns configuration found [] = Unit {0}
AreReigns configuration found (reign ∷ reigns) =
    IsReign configuration found reign × AreReigns configuration (found ++ reign.entries) reigns

-- the entries behind reigns
abbrev pub entries_after : List Entry → List Reign → List Entry
entries_after found [] = found
entries_after found (reign ∷ reigns) = entries_after (found ++ reign.entries) reigns

-- one work behind another
abbrev pub work_on : Work → Work → Work
work_on before next =
    record {
      exchanges = before.exchanges ++ next.exchanges;
      publications = next.publications;
      turns = λ place. before.turns place ++ next.turns place;
    }

-- what stands of reigns, behind what was done before them
abbrev pub work_after : Work → List Reign → Work
work_after before [] = before
work_after before (reign ∷ reigns) = work_after (work_on before reign.first) reigns

abbrev pub no_work : Work
no_work = record { exchanges = []; publications = []; turns = λ place. [] }

-- No entries are the journal of a server that did nothing yet.
abbrev pub NothingIsOneServersWork : Type 0
NothingIsOneServersWork = (configuration : Configuration) → IsOneServersWork configuration [] no_work

-- What stands of owners one after another, behind the journal of what one server did, is together what one server did,
-- and all the entries are its journal.
abbrev pub OwnersAreOneServer : Type 0
OwnersAreOneServer =
    (configuration : Configuration) (found : List Entry) (before : Work) (reigns : List Reign)
    → IsOneServersWork configuration found before → AreReigns configuration found reigns
    → IsOneServersWork configuration (entries_after found reigns) (work_after before reigns)
