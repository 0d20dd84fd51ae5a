-- The turns of desks, inserted into one history of the machine.
use mathlib.Core.List.{IsPrefix}
use Rattle.std.specs.Prelude.{◌≡◌, ◌≢◌, ℕ, Bool, true, false, List, [], ◌++◌, map, filter, not, Some, slice_get}
use Rattle.std.specs.FinMap.{empty}
use Rattle.mds_catalog.specs.Publication.{Publication}
use Rattle.mds_drafts.specs.Drafts.{Drafts}
use Rattle.mds_fleet.specs.Books.{Rows}
use Rattle.mds_request.specs.Configuration.{Configuration, Operator, actor_of}
use Rattle.mds_request.specs.declared.config.Actor.{Actor}
use Rattle.mds_request.specs.declared.config.Actor.TheVariants.{Operator as OperatorAt}
use Rattle.mds_machine.specs.History.{publications_after}
use Rattle.mds_machine.specs.Isolation.{HasMemory, IsIsolatedFrom, IsMeantFrom}
use Rattle.mds_machine.specs.Step.{State, Exchange, Run, new_state}
use Rattle.mds_machine.specs.Views.{published, is_of, view}
use Rattle.mds_machine.specs.Desks.{AreTurns}
use Rattle.mds_machine.specs.Fronts.{Turn, last_front, continued, served_in}
use Rattle.mds_machine.specs.Room.{AreRoomTurns, authors_in}

-- the requests of turns with their replies
abbrev pub exchanges_in : List Turn → List Exchange
exchanges_in turns = map (λ turn. record { request = turn.request; reply = turn.reply }) turns

-- the exchanges of an operator in a history, and those of all others
abbrev pub exchanges_of : Configuration → ℕ → List Exchange → List Exchange
exchanges_of configuration place history = filter (λ e. is_of configuration place e.request) history

abbrev pub exchanges_but_of : Configuration → ℕ → List Exchange → List Exchange
exchanges_but_of configuration place history = filter (λ e. not (is_of configuration place e.request)) history

-- A history is another one with an operator's own exchanges inserted: it has both, each in its order, and nothing else.
-- Its publications, and what every other operator sees of it, are as in the other.
pub record IsPutInto (w : State) (place : ℕ) (own history whole : List Exchange) : Type 0 where
  pub of_operator : exchanges_of w.configuration place whole ≡ own
  pub of_others : exchanges_but_of w.configuration place whole ≡ history
  pub publications : publications_after w.configuration w.drafts whole ≡ publications_after w.configuration w.drafts history
  pub views : (other : ℕ) → other ≢ place → view w.configuration w.drafts whole other ≡ view w.configuration w.drafts history other

-- An operator's part in a history: the exchanges of its turns, none of which ran out of memory, and the empty view
-- continued by them, followed by what is published past the last front.
pub record HasPart (configuration : Configuration) (place : ℕ) (turns : List Turn) (history : List Exchange) : Type 0 where
  pub own : exchanges_of configuration place history ≡ exchanges_in turns
  pub memory : HasMemory configuration place history
  pub seen : (past : List Publication)
      × (publications_after configuration (new_state configuration).drafts history ≡ last_front [] turns ++ past)
      × (view configuration (new_state configuration).drafts history place ≡ continued [] turns ++ map published past)

-- the turns of an operator's desk since it was created, when it knew nothing and had no rows
abbrev pub AreItsTurns : Configuration → ℕ → Operator → List Turn → Rows → Type 0
AreItsTurns configuration place operator turns rows = AreTurns configuration place operator [] empty turns rows

-- What a server did since it was created: the exchanges at the author's room, after which this list is published, and
-- the turns of each operator's desk, whose last front is a prefix of this list.
pub record HasServed (configuration : Configuration) (history : List Exchange) (publications : List Publication) (turns : ℕ → List Turn) : Type 0 where
  pub drafts : Drafts
  pub room : AreRoomTurns configuration ((new_state configuration).drafts, []) history (drafts, publications)
  pub desks : (place : ℕ) (operator : Operator) → slice_get configuration.operators place ≡ Some operator
      → (rows : Rows) × AreItsTurns configuration place operator (turns place) rows
      × IsPrefix (last_front [] (turns place)) publications

abbrev pub is_operator : Actor → Bool
is_operator (OperatorAt place) = true
is_operator other = false

-- the exchanges of the author and of anonymous clients
abbrev pub exchanges_of_none : Configuration → List Exchange → List Exchange
exchanges_of_none configuration history = filter (λ e. not (is_operator (actor_of configuration e.request.token))) history

-- One history of all, to which the isolation of the machine applies: each operator's replies in it are what its view
-- alone defines, and are the same in any history of which it sees the same. Its exchanges that aren't an operator's are
-- the author's at the room, its publications are those of the room, and each operator's part in it are its served
-- turns. The state after it has the drafts that the room's exchanges leave, and for each operator the rows that the
-- turns of its desk leave.
pub record IsHistoryOfAll (configuration : Configuration) (history : List Exchange) (publications : List Publication) (turns : ℕ → List Turn) (whole : List Exchange) (after : State) : Type 0 where
  pub run : Run (new_state configuration) whole after
  pub meant : IsMeantFrom (new_state configuration) whole after
  pub isolated : IsIsolatedFrom (new_state configuration) whole after
  pub author : exchanges_of_none configuration whole ≡ authors_in configuration history
  pub shown : publications_after configuration (new_state configuration).drafts whole ≡ publications
  pub parts : (place : ℕ) (operator : Operator) → slice_get configuration.operators place ≡ Some operator
      → HasPart configuration place (served_in configuration place (turns place)) whole
  pub drafts : (drafts : Drafts) → AreRoomTurns configuration ((new_state configuration).drafts, []) history (drafts, publications)
      → after.drafts ≡ drafts
  pub rows : (place : ℕ) (operator : Operator) (rows : Rows) → slice_get configuration.operators place ≡ Some operator
      → AreItsTurns configuration place operator (turns place) rows → slice_get after.fleets place ≡ Some rows
