-- An operator's desk: one turn, and a run of turns.
use mathlib.Core.List.{IsPrefix}
use Rattle.std.specs.Prelude.{◌≡◌, ◌⊎◌, ℕ, List, [], ◌∷◌, if◌then◌else◌, true, Result, Err}
use Rattle.std.specs.List.{list_all}
use Rattle.mds_catalog.specs.Publication.{Publication}
use Rattle.mds_fleet.specs.Books.{Rows}
use Rattle.mds_request.specs.Call.{call_of}
use Rattle.mds_request.specs.Configuration.{Configuration, Operator}
use Rattle.mds_request.specs.Request.{Request}
use Rattle.mds_request.specs.Reply.{Reply, refused}
use Rattle.mds_request.specs.declared.call.Call.{Call}
use Rattle.mds_request.specs.declared.code.Code.{Code}
use Rattle.mds_request.specs.declared.code.Code.TheVariants.{TooLarge, Token, NoSnapshot, NoMemory}
use Rattle.mds_machine.specs.Meaning.{own_step, AreRows}
use Rattle.mds_machine.specs.Views.{Seen, is_of, publications_of, requests_of}
use Rattle.mds_machine.specs.Fronts.{Turn, AreRising, last_front, continued, AreAnswers, is_served, requests_in, replies_in}

-- A request with another client's access token is refused, at an operator's desk and in the author's room: it is too
-- large, or the token isn't the one that is served there.
abbrev pub refusal_of : Result Call Code → Code
refusal_of (Err TooLarge) = TooLarge
refusal_of other = Token

-- An operator's desk with these rows, at a front: for a request of the operator, the operator's own step; any other
-- request is refused and doesn't change the rows.
abbrev pub desk_does : Configuration → ℕ → Operator → List Publication → Rows → Request → Reply × Rows
desk_does configuration place operator front rows request =
    if is_of configuration place request then own_step configuration operator front rows request
    else (refused (refusal_of (call_of configuration request)), rows)

-- there was no snapshot or no memory: status 503
abbrev pub IsUnavailable : Reply → Type 0
IsUnavailable reply = (reply ≡ refused NoSnapshot) ⊎ (reply ≡ refused NoMemory)

-- One turn of a desk that knows some publications: its front has all of them as a prefix; the reply and the rows
-- afterwards are what the desk does at the front, or the reply is 503 and the rows don't change. The front is what the
-- desk knows afterwards.
pub record IsTurn (configuration : Configuration) (place : ℕ) (operator : Operator) (known : List Publication) (rows : Rows) (turn : Turn) (after : Rows) : Type 0 where
  pub begins : IsPrefix known turn.front
  pub answer : let does = desk_does configuration place operator turn.front rows turn.request in
      ((turn.reply ≡ does.0) × (after ≡ does.1)) ⊎ (IsUnavailable turn.reply × (after ≡ rows))

-- turns one after another
abbrev pub AreTurns : Configuration → ℕ → Operator → List Publication → Rows → List Turn → Rows → Type 0
AreTurns configuration place operator known rows [] after = after ≡ rows
AreTurns configuration place operator known rows (turn ∷ turns) after =
    (between : Rows) × IsTurn configuration place operator known rows turn between
    × AreTurns configuration place operator turn.front between turns after

-- The meaning of turns. Take any view whose publications the desk knew and whose rows it had, and let each request be
-- the operator's and no reply 503. Then each reply is the answer in the view continued up to its request, and the rows
-- afterwards are those of the continued view.
abbrev pub AreMeant : Configuration → ℕ → Operator → List Publication → Rows → List Turn → Rows → Type 0
AreMeant configuration place operator known rows turns after =
    (seen : List Seen)
    → IsPrefix (publications_of seen) known → AreRows configuration operator (requests_of seen) rows
    → list_all (is_served configuration place) turns ≡ true
    → AreAnswers configuration operator seen turns
    × AreRows configuration operator (requests_of (continued seen turns)) after

-- A run of a desk: there are rising fronts, the first of which has all that the desk knew as a prefix, one for each
-- request in order, such that the replies and the rows are those of turns at these fronts, with their meaning. The last
-- front, if there is one, is what the desk knows afterwards.
pub record IsRun (configuration : Configuration) (place : ℕ) (operator : Operator) (known : List Publication) (rows : Rows) (requests : List Request) (replies : List Reply) (known_after : List Publication) (rows_after : Rows) : Type 0 where
  pub turns : List Turn
  pub asks : requests_in turns ≡ requests
  pub tells : replies_in turns ≡ replies
  pub are : AreTurns configuration place operator known rows turns rows_after
  pub rising : AreRising known turns
  pub meant : AreMeant configuration place operator known rows turns rows_after
  pub last : known_after ≡ last_front known turns
