-- Laws of desks, of fronts and of the one history that all desks are part of.
use mathlib.Core.List.{IsPrefix}
use Rattle.std.specs.Prelude.{◌≡◌, ℕ, List, [], ◌++◌, true, Some, slice_get}
use Rattle.std.specs.List.{list_all}
use Rattle.mds_catalog.specs.Publication.{Publication}
use Rattle.mds_drafts.specs.Drafts.{Drafts}
use Rattle.mds_fleet.specs.Books.{Rows}
use Rattle.mds_request.specs.Configuration.{Configuration, Operator}
use Rattle.mds_machine.specs.History.{publications_after}
use Rattle.mds_machine.specs.Step.{State, Exchange, Run, new_state, with_rows}
use Rattle.mds_machine.specs.Views.{Seen, publications_of, requests_of}
use Rattle.mds_machine.specs.Desks.{AreTurns, AreMeant}
use Rattle.mds_machine.specs.Fronts.{Turn, AreRising, last_front, continued, requests_in, replies_in, is_served, served_in}
use Rattle.mds_machine.specs.OneHistory.{exchanges_in, exchanges_of, IsPutInto, HasPart, AreItsTurns, HasServed, IsHistoryOfAll}
use Rattle.mds_machine.specs.Room.{AreRoomTurns, authors_in}

-- the fronts of turns rise, and turns have their meaning
abbrev pub TurnsAreMeant : Type 0
TurnsAreMeant =
    (configuration : Configuration) (place : ℕ) (operator : Operator) (known : List Publication) (rows after : Rows)
    (turns : List Turn)
    → AreTurns configuration place operator known rows turns after
    → AreRising known turns × AreMeant configuration place operator known rows turns after

-- turns after turns are turns, whatever the desk learns in between
abbrev pub TurnsAreJoined : Type 0
TurnsAreJoined =
    (configuration : Configuration) (place : ℕ) (operator : Operator) (known learnt : List Publication)
    (rows between after : Rows) (turns more : List Turn)
    → AreTurns configuration place operator known rows turns between → IsPrefix (last_front known turns) learnt
    → AreTurns configuration place operator learnt between more after
    → AreTurns configuration place operator known rows (turns ++ more) after

-- Turns for requests of other clients, and turns answered 503, have no effect: the served ones are turns without them,
-- at fronts that are prefixes of the last front.
abbrev pub ServedAreTurns : Type 0
ServedAreTurns =
    (configuration : Configuration) (place : ℕ) (operator : Operator) (known : List Publication) (rows after : Rows)
    (turns : List Turn) →
    let served = served_in configuration place turns in
    AreTurns configuration place operator known rows turns after
    → AreTurns configuration place operator known rows served after
    × (list_all (is_served configuration place) served ≡ true)
    × IsPrefix (last_front known served) (last_front known turns)

-- a continued view has the requests of its turns, each once and in order, and the publications of the last front
abbrev pub ShowsLastFront : Type 0
ShowsLastFront =
    (seen : List Seen) (turns : List Turn) → AreRising (publications_of seen) turns
    → (requests_of (continued seen turns) ≡ requests_of seen ++ requests_in turns)
    × (publications_of (continued seen turns) ≡ last_front (publications_of seen) turns)

-- a view that is continued by turns, and then by more, is continued by all of them
abbrev pub ViewsAreJoined : Type 0
ViewsAreJoined =
    (seen : List Seen) (turns more : List Turn) → continued seen (turns ++ more) ≡ continued (continued seen turns) more

-- The served turns of one operator's desk can be inserted into any history of all other clients from a new machine
-- whose publications have the last front as a prefix. The result is again a history of the machine, with the same final
-- state as the other history, but with the desk's rows for the operator; and the operator's view of it is the empty
-- one, continued by these turns, followed by the publications past the last front.
abbrev pub TurnsArePutIn : Type 0
TurnsArePutIn =
    (configuration : Configuration) (next : State) (history : List Exchange) (place : ℕ) (operator : Operator)
    (turns : List Turn) (rows : Rows) →
    let new = new_state configuration in
    let served = served_in configuration place turns in
    Run new history next → slice_get configuration.operators place ≡ Some operator
    → exchanges_of configuration place history ≡ []
    → AreItsTurns configuration place operator turns rows
    → IsPrefix (last_front [] turns) (publications_after configuration new.drafts history)
    → (whole : List Exchange) × Run new whole (with_rows next place rows)
    × IsPutInto new place (exchanges_in served) history whole × HasPart configuration place served whole

-- The author's exchanges at the room are a history of the machine, with the room's publications and drafts.
abbrev pub RoomIsHistory : Type 0
RoomIsHistory =
    (configuration : Configuration) (history : List Exchange) (drafts : Drafts) (publications : List Publication) →
    let new = new_state configuration in
    AreRoomTurns configuration (new.drafts, []) history (drafts, publications)
    → Run new (authors_in configuration history)
    (record { configuration = configuration; publications = publications; drafts = drafts; fleets = new.fleets })

-- the exchanges of a server form one history
abbrev pub IsOneHistory : Type 0
IsOneHistory =
    (configuration : Configuration) (history : List Exchange) (publications : List Publication) (turns : ℕ → List Turn)
    → HasServed configuration history publications turns
    → (whole : List Exchange) × (after : State) × IsHistoryOfAll configuration history publications turns whole after

-- Isolation at running desks. Take the turns of one operator's desk at two servers of one configuration, up to any
-- point in each. If those that are served continue the empty view to the same view, then the operator's replies in them
-- are the same, byte for byte, and so are its rows, whatever the authors drafted and the other operators asked.
abbrev pub DesksAreIsolated : Type 0
DesksAreIsolated =
    (configuration : Configuration) (place : ℕ) (operator : Operator) (turns others : List Turn) (rows other_rows : Rows) →
    let served = served_in configuration place turns in
    let other_served = served_in configuration place others in
    AreItsTurns configuration place operator turns rows → AreItsTurns configuration place operator others other_rows
    → continued [] served ≡ continued [] other_served
    → (replies_in served ≡ replies_in other_served) × (rows ≡ other_rows)
