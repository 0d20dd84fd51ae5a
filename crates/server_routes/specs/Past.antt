-- What a head asks of the past.
use Rattle.std.specs.Prelude.{◌≡◌, ℕ, List, IsSome, Option, Some, None, option_map, Result, Ok, Err}
use Rattle.http.specs.declared.request.Parts.{Parts}
use Rattle.mds_request.specs.Call.{path_of}
use Rattle.mds_request.specs.Configuration.{Configuration, actor_of}
use Rattle.mds_request.specs.Request.{verb_of}
use Rattle.mds_request.specs.declared.code.Code.{Code}
use Rattle.mds_request.specs.declared.config.Actor.{Actor}
use Rattle.mds_request.specs.declared.request.Verb.{Verb}
use Rattle.server_state.specs.HttpRequest.{target_of, token_of}
use Rattle.server_routes.specs.App.{call_at}
use Rattle.server_routes.specs.Query.{asked_moment, query_of}
use Rattle.server_routes.specs.State.{state_call}
use Rattle.server_routes.specs.declared.past.PastQuestion.{PastQuestion}
use Rattle.server_routes.specs.declared.state.FleetQuestion.{FleetQuestion}
use Rattle.server_routes.specs.declared.state.StateCall.{StateCall}
use Rattle.server_routes.specs.declared.state.StateCall.TheVariants.{AsksFleet}

-- the question about fleets at this moment, if that is one
abbrev pub question_at : FleetQuestion → Option ℕ → PastQuestion
question_at fleet at = record { fleet = fleet; at = at }

-- A question about fleets is one about the past where its target's query asks for a moment.
abbrev pub past_in : Result StateCall Code → List ℕ → Option PastQuestion
past_in (Ok (AsksFleet fleet)) target = option_map (question_at fleet) (asked_moment (query_of target))
past_in call target = None

-- the question of a head about the past, where it asks one
abbrev pub past_asked : Configuration → Parts → Option PastQuestion
past_asked configuration parts =
    past_in (state_call (actor_of configuration (token_of parts.headers)) (verb_of parts.method) (target_of parts.uri)) (target_of parts.uri)

-- A question about the past is asked where the call of the same head is that question about fleets as they are now, at the
-- path of a call next to the protocol's. So such heads are refused by client, path and method as those are.
pub record IsOfFleets (actor : Actor) (verb : Verb) (target : List ℕ) (question : PastQuestion) : Type 0 where
  pub as_now : state_call actor verb target ≡ Ok (AsksFleet question.fleet)
  pub beside : IsSome (call_at (path_of target))

abbrev pub PastIsOfFleets : Type 0
PastIsOfFleets =
    (actor : Actor) (verb : Verb) (target : List ℕ) (question : PastQuestion)
    → past_in (state_call actor verb target) target ≡ Some question → IsOfFleets actor verb target question
