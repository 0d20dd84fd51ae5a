-- The table at the program's routes.
use Rattle.std.proofs.Common.{◌≡◌, ◌≤◌, ℕ, List, length, cond, refl, ◌∙◌, sym, ap, Result, Err}
use Rattle.std.proofs.lemmas.Bool.{le-ltb}
use Rattle.mds_request.specs.Call.{call_among, rows_at, called_at, segments_of, call_of}
use Rattle.mds_request.specs.Configuration.{Configuration, actor_of}
use Rattle.mds_request.specs.Request.{Request}
use Rattle.mds_request.specs.declared.call.TheConstants.{MOST_BODY}
use Rattle.mds_request.specs.Route.{spelled}
use Rattle.mds_request.specs.declared.call.Call.{Call}
use Rattle.mds_request.specs.declared.code.Code.{Code}
use Rattle.mds_request.specs.declared.code.Code.TheVariants.{TooLarge, NoRoute, Method}
use Rattle.mds_request.specs.declared.config.Actor.{Actor}
use Rattle.mds_request.specs.declared.config.Actor.TheVariants.{Author, Operator}
use Rattle.mds_request.specs.declared.request.Verb.{Verb}
use Rattle.mds_request.specs.declared.request.Verb.TheVariants.{Other}
use Rattle.mds_request.specs.declared.routes.Route.{Route}
use Rattle.mds_request.specs.declared.routes.Route.TheVariants.{Policies, Policy, Geographies, Geography, FleetEvents, FleetVehicles, FleetVehicle, Compliance, PolicyCompliance, PolicyDraft, GeographyDraft, Publish}

-- no row has another method
by_other : (actor : Actor) (route : Route) (id : List ℕ) → Err Method ≡ call_among actor Other (spelled route id) NoRoute (rows_at (spelled route id))
by_other actor Policies id = refl
by_other actor Policy id = refl
by_other actor Geographies id = refl
by_other actor Geography id = refl
by_other actor FleetEvents id = refl
by_other actor FleetVehicles id = refl
by_other actor FleetVehicle id = refl
by_other actor Compliance id = refl
by_other actor PolicyCompliance id = refl
by_other actor PolicyDraft id = refl
by_other actor GeographyDraft id = refl
by_other actor Publish id = refl

pub author_other : (route : Route) (id : List ℕ) (verb : Verb) → verb ≡ Other → Err Method ≡ called_at Author verb (spelled route id)
author_other route id verb e =
    by_other Author route id ∙ ap (λ v. called_at Author v (spelled route id)) (sym e)

pub operator_other : (place : ℕ) (route : Route) (id : List ℕ) (verb : Verb) → verb ≡ Other → Err Method ≡ called_at (Operator place) verb (spelled route id)
operator_other place route id verb e =
    by_other (Operator place) route id ∙ ap (λ v. called_at (Operator place) v (spelled route id)) (sym e)

-- the call at the route that a target leads to
pub answered : (c : Configuration) (r : Request) (actor : Actor) (route : Route) (id : List ℕ) (found : Result Call Code) → length r.body ≤ MOST_BODY → actor ≡ actor_of c r.token → spelled route id ≡ segments_of r.target → found ≡ called_at actor r.verb (spelled route id)
    → found ≡ call_of c r
answered c r actor route id found small a s e =
    e
    ∙ ap (λ segments. called_at actor r.verb segments) s
    ∙ ap (λ a. called_at a r.verb (segments_of r.target)) a
    ∙ ap (λ b. cond b (Err TooLarge) (called_at (actor_of c r.token) r.verb (segments_of r.target))) (sym (le-ltb _ _ small))
