-- A question about the past is one about fleets.
use Rattle.std.proofs.Common.{◌≡◌, ℕ, List, IsSome, Option, Some, None, option_map, unwrap_or, Result, Ok, Err, refl, ap}
use Rattle.mds_request.specs.Call.{called_at, path_of, segments_of}
use Rattle.mds_request.specs.declared.call.Call.{Call}
use Rattle.mds_request.specs.declared.code.Code.{Code}
use Rattle.mds_request.specs.declared.config.Actor.{Actor}
use Rattle.mds_request.specs.declared.request.Verb.{Verb}
use Rattle.server_routes.specs.App.{by_verb, call_at}
use Rattle.server_routes.specs.Past.{PastIsOfFleets, past_in, question_at}
use Rattle.server_routes.specs.Query.{asked_moment, query_of}
use Rattle.server_routes.specs.State.{app_call, own_call, state_call}
use Rattle.server_routes.specs.declared.app.AppCall.{AppCall}
use Rattle.server_routes.specs.declared.past.PastQuestion.{PastQuestion}
use Rattle.server_routes.specs.declared.state.FleetQuestion.{FleetQuestion}
use Rattle.server_routes.specs.declared.state.StateCall.{StateCall}
use Rattle.server_routes.specs.declared.state.StateCall.TheVariants.{Call as OfProtocol, Reports, AuthorAsks, OperatorAsks, AsksFleet}

of_moment : (fleet : FleetQuestion) (asked : Option (Option ℕ)) (question : PastQuestion) → option_map (question_at fleet) asked ≡ Some question
    → fleet ≡ question.fleet
of_moment fleet None question is = absurd cc
of_moment fleet (Some at) question is = let same : question_at fleet at ≡ question = cc in ap (λ (q : PastQuestion). q.fleet) same

of_call : (call : Result StateCall Code) (target : List ℕ) (question : PastQuestion) → past_in call target ≡ Some question
    → call ≡ Ok (AsksFleet question.fleet)
of_call (Err code) target question is = absurd cc
of_call (Ok (OfProtocol call)) target question is = absurd cc
of_call (Ok (Reports place)) target question is = absurd cc
of_call (Ok (AuthorAsks asked)) target question is = absurd cc
of_call (Ok (OperatorAsks place asked)) target question is = absurd cc
of_call (Ok (AsksFleet fleet)) target question is =
    ap (λ (f : FleetQuestion). Ok (AsksFleet f)) (of_moment fleet (asked_moment (query_of target)) question is)

-- no call of the protocol is a question about fleets
not_own : (called : Result Call Code) (fleet : FleetQuestion) → own_call called ≡ Ok (AsksFleet fleet) → ⊥
not_own (Ok call) fleet is = cc
not_own (Err code) fleet is = cc

at_path : (actor : Actor) (verb : Verb) (found : Option AppCall) (called : Result Call Code) (fleet : FleetQuestion)
    → unwrap_or (option_map (app_call actor) (option_map (by_verb verb) found)) (own_call called) ≡ Ok (AsksFleet fleet) → IsSome found
at_path actor verb None called fleet is = absurd (not_own called fleet is)
at_path actor verb (Some call) called fleet is = refl

pub is_of_fleets : PastIsOfFleets
is_of_fleets actor verb target question is =
    let now = of_call (state_call actor verb target) target question is in
    record {
      as_now = now;
      beside = at_path actor verb (call_at (path_of target)) (called_at actor verb (segments_of target)) question.fleet now;
    }
