-- One step of the machine: a request, its reply and the next state.
use Rattle.std.specs.Prelude.{◌≡◌, ◌≢◌, ℕ, List, [], ◌∷◌, map, zip, set, slice_get, Result, Ok, Err}
use Rattle.std.specs.FinMap.{empty}
use Rattle.mds_catalog.specs.Publication.{Publication}
use Rattle.mds_drafts.specs.Drafts.{Drafts}
use Rattle.mds_fleet.specs.Books.{Rows}
use Rattle.mds_request.specs.Configuration.{Configuration}
use Rattle.mds_request.specs.Call.{call_of}
use Rattle.mds_request.specs.Request.{Request}
use Rattle.mds_request.specs.Reply.{Reply}
use Rattle.mds_request.specs.declared.call.Call.{Call}
use Rattle.mds_request.specs.declared.call.Call.TheVariants.{Author, Operator as OperatorAt}
use Rattle.mds_request.specs.declared.code.Code.{Code}
use Rattle.mds_request.specs.declared.code.Code.TheVariants.{TooLarge, Token}
use Rattle.mds_machine.specs.Answer.{or_code, settled, Gives, ◌>>=◌}
use Rattle.mds_machine.specs.Author.{author_does}
use Rattle.mds_machine.specs.Operator.{operator_does}

-- the whole state of the machine between two requests
pub record State : Type 0 where
  pub configuration : Configuration
  -- in their order
  pub publications : List Publication
  pub drafts : Drafts
  -- the rows of each operator, in the configuration's order
  pub fleets : List Rows

-- the state with other rows for one operator
abbrev pub with_rows : State → ℕ → Rows → State
with_rows w place rows =
    record { configuration = w.configuration; publications = w.publications; drafts = w.drafts; fleets = set w.fleets place rows }

-- What a call does: one of the author changes no rows, one of an operator only its own. In a state with rows for each
-- operator, as a machine's always is, neither of the two refusals occurs.
abbrev pub call_does : State → Call → Request → Result (Reply × State) Code
call_does w (Author call) request = do
  after ← author_does w.drafts w.publications call request
  Ok (after.0, record { configuration = w.configuration; publications = after.1.1; drafts = after.1.0; fleets = w.fleets })
call_does w (OperatorAt place call) request = do
  operator ← or_code Token (slice_get w.configuration.operators place)
  rows ← or_code Token (slice_get w.fleets place)
  after ← operator_does w.configuration.zone operator w.publications rows call request
  Ok (after.0, with_rows w place after.1)

-- what a request does, unless it is refused
abbrev pub does : State → Request → Result (Reply × State) Code
does w request = call_of w.configuration request >>= λ call. call_does w call request

-- the reply to a request and the next state, where memory doesn't run out
abbrev pub answered : State → Request → Reply × State
answered w request = settled w (does w request)

-- memory may run out for a request that isn't too large and whose token is known
pub record MayRunOut (w : State) (request : Request) : Type 0 where
  pub fits : call_of w.configuration request ≢ Err TooLarge
  pub known : call_of w.configuration request ≢ Err Token

-- A step of the machine. Out of memory may be the reply in place of anything else, and changes nothing.
abbrev pub Step : State → Request → Reply → State → Type 0
Step w request reply next = Gives (MayRunOut w request) w (does w request) reply next

-- a request and the reply to it
pub record Exchange : Type 0 where
  pub request : Request
  pub reply : Reply

-- the exchanges of requests with their replies, in order
abbrev pub exchanges : List Request → List Reply → List Exchange
exchanges requests replies = map (λ e. record { request = e.0; reply = e.1 }) (zip requests replies)

-- a history: a step for each of its exchanges, one after another
abbrev pub Run : State → List Exchange → State → Type 0
Run w [] next = next ≡ w
Run w (e ∷ history) next = (between : State) × Step w e.request e.reply between × Run between history next

-- the state of a configuration before its first request: no publications, no drafts, and no rows of any operator
abbrev pub new_state : Configuration → State
new_state configuration =
    record {
      configuration = configuration;
      publications = [];
      drafts = record { policies = empty; geographies = empty };
      fleets = map (λ operator. empty) configuration.operators;
    }
