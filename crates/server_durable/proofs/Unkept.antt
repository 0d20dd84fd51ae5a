-- No call outside the protocol is one of the protocol, so no journal persists it.
use Rattle.std.proofs.Common.{◌≡◌, ◌&&◌, ◌==◌, ℕ, List, [], Bool, true, false, cond, nat_lt, length, IsSome, Option, Some, None, option_map, Err, refl, ap}
use Rattle.mds_request.specs.Call.{path_of, rows_at, segments_of, call_among, called_at, call_of}
use Rattle.mds_request.specs.Configuration.{Configuration, actor_of}
use Rattle.mds_request.specs.Request.{Request}
use Rattle.mds_request.specs.declared.call.TheConstants.{MOST_BODY}
use Rattle.mds_request.specs.declared.code.Code.TheVariants.{NoRoute, TooLarge}
use Rattle.mds_request.specs.declared.config.Actor.{Actor}
use Rattle.mds_request.specs.declared.config.Actor.TheVariants.{Author, Operator, Nobody}
use Rattle.mds_request.specs.declared.request.Verb.{Verb}
use Rattle.journal_laws.specs.Persisted.{may_change}
use Rattle.server_routes.specs.App.{app_of, by_verb, call_at}
use Rattle.server_routes.proofs.Apart.{by_app}

some_call : {A B : Type 0} (f : A → B) (o : Option A) → IsSome (option_map f o) → IsSome o
some_call f None some = absurd cc
some_call f (Some a) some = cc

no_rows : (request : Request) → IsSome (app_of request) → rows_at (segments_of request.target) ≡ []
no_rows request some = by_app (path_of request.target) (some_call (by_verb request.verb) (call_at (path_of request.target)) some)

uncalled : (actor : Actor) (verb : Verb) (segments : List (List ℕ)) → rows_at segments ≡ [] → may_change (called_at actor verb segments) ≡ false
uncalled Nobody verb segments none = refl
uncalled Author verb segments none = ap (λ rows. may_change (call_among Author verb segments NoRoute rows)) none
uncalled (Operator place) verb segments none = ap (λ rows. may_change (call_among (Operator place) verb segments NoRoute rows)) none

limited : (b : Bool) (actor : Actor) (verb : Verb) (segments : List (List ℕ)) → rows_at segments ≡ []
    → may_change (cond b (Err TooLarge) (called_at actor verb segments)) ≡ false
limited true actor verb segments none = refl
limited false actor verb segments none = uncalled actor verb segments none

pub unkept : (configuration : Configuration) (request : Request) (status : ℕ) → IsSome (app_of request) → (may_change (call_of configuration request) && (status == 200)) ≡ false
unkept configuration request status some =
    ap (λ b. b && (status == 200))
    (limited (nat_lt MOST_BODY (length request.body)) (actor_of configuration request.token) request.verb (segments_of request.target) (no_rows request some))
