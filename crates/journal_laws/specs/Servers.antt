-- What replay of a journal recovers of the author's room and of desks, and the one server that continues over a
-- restart.
use mathlib.Core.List.{IsPrefix}
use Rattle.std.specs.Prelude.{◌≡◌, ℕ, List, [], ◌++◌, filter, Some, slice_get}
use Rattle.std.specs.List.{AllByRecursion}
use Rattle.mds_catalog.specs.Publication.{Publication}
use Rattle.mds_drafts.specs.Drafts.{Drafts}
use Rattle.mds_fleet.specs.Books.{Rows}
use Rattle.mds_request.specs.Configuration.{Configuration, Operator}
use Rattle.mds_machine.specs.Step.{Exchange, new_state}
use Rattle.mds_machine.specs.Desks.{AreTurns}
use Rattle.mds_machine.specs.Fronts.{Turn, last_front, requests_in, replies_in}
use Rattle.mds_machine.specs.OneHistory.{HasServed}
use Rattle.mds_machine.specs.Room.{AreRoomTurns, authors_in}
use Rattle.journal_laws.specs.Persisted.{is_kept, AreAnsweredAgain}

-- a desk's turns that are persisted: their requests and replies decide, not their fronts
abbrev pub kept_turns : Configuration → List Turn → List Turn
kept_turns configuration turns = filter (λ turn. is_kept configuration (record { request = turn.request; reply = turn.reply })) turns

abbrev pub AreServed : List Turn → Type 0
AreServed turns = AllByRecursion (λ turn. turn.reply.status ≡ 200) turns

-- these turns are a replay of the persisted requests, each with success
abbrev pub AreTurnsAgain : Configuration → List Turn → List Turn → Type 0
AreTurnsAgain configuration turns again = AreServed again × (requests_in again ≡ requests_in (kept_turns configuration turns))

-- The persisted requests of a desk's turns, replayed with success from the same rows, at whatever fronts, have the same
-- replies, and lead to the same rows.
abbrev pub DeskIsRecovered : Type 0
DeskIsRecovered =
    (configuration : Configuration) (place : ℕ) (operator : Operator) (known other : List Publication) (rows after recovered : Rows) (turns again : List Turn)
    → AreTurns configuration place operator known rows turns after
    → AreTurns configuration place operator other rows again recovered
    → AreTurnsAgain configuration turns again
    → (replies_in again ≡ replies_in (kept_turns configuration turns)) × (recovered ≡ after)

-- The turns before a restart, and those of the recovered desk, which knows at least the last front before it, are turns
-- of one desk.
abbrev pub DeskGoesOn : Type 0
DeskGoesOn =
    (configuration : Configuration) (place : ℕ) (operator : Operator) (known other known_again : List Publication) (rows left recovered after : Rows) (told again later : List Turn)
    → AreTurns configuration place operator known rows told left
    → AreTurns configuration place operator known_again rows again recovered
    → AreTurnsAgain configuration told again
    → IsPrefix (last_front known told) other
    → AreTurns configuration place operator other recovered later after
    → AreTurns configuration place operator known rows (told ++ later) after

-- The persisted requests of the author's exchanges, replayed with success at a new room, lead to the same drafts and
-- publications, with the same moments.
abbrev pub RoomIsRecovered : Type 0
RoomIsRecovered =
    (configuration : Configuration) (history again : List Exchange) (drafts drafts_again : Drafts) (publications publications_again : List Publication)
    → AreRoomTurns configuration ((new_state configuration).drafts, []) history (drafts, publications)
    → AreRoomTurns configuration ((new_state configuration).drafts, []) again (drafts_again, publications_again)
    → AreAnsweredAgain configuration (authors_in configuration history) (authors_in configuration again)
    → (drafts_again ≡ drafts) × (publications_again ≡ publications)

-- What a desk does after a restart: it knows at least its last front before it, has the rows that were left, and its
-- last front is a prefix of what is published.
abbrev pub DeskServesOn : Configuration → ℕ → Operator → List Turn → Rows → List Turn → List Publication → Type 0
DeskServesOn configuration place operator told left later publications =
    (known : List Publication) × (after : Rows)
    × IsPrefix (last_front [] told) known
    × AreTurns configuration place operator known left later after
    × IsPrefix (last_front known later) publications

-- Over a restart there is one server. What a server did and answered, and what was done from the drafts, publications
-- and rows that this left, is together what one server did.
abbrev pub IsOneServer : Type 0
IsOneServer =
    (configuration : Configuration) (told later : List Exchange) (before publications : List Publication) (told_turns later_turns : ℕ → List Turn) (drafts : Drafts)
    → (served : HasServed configuration told before told_turns)
    → AreRoomTurns configuration (served.drafts, before) later (drafts, publications)
    → ((place : ℕ) (operator : Operator) (is : slice_get configuration.operators place ≡ Some operator)
    → DeskServesOn configuration place operator (told_turns place) (served.desks place operator is).0 (later_turns place) publications)
    → HasServed configuration (told ++ later) publications (λ place. told_turns place ++ later_turns place)
