-- A request's call is a call of the client whose access token it has.
use Rattle.std.proofs.Common.{◌≡◌, Result, Ok, Err, refl, subst, sym}
use Rattle.mds_request.specs.Call.{call_of}
use Rattle.mds_request.specs.Configuration.{Configuration, actor_of}
use Rattle.mds_request.specs.Request.{Request}
use Rattle.mds_request.specs.declared.call.Call.{Call}
use Rattle.mds_request.specs.declared.call.Call.TheVariants as call
use Rattle.mds_request.specs.declared.code.Code.{Code}
use Rattle.mds_request.specs.declared.config.Actor.{Actor}
use Rattle.mds_request.specs.declared.config.Actor.TheVariants.{Author, Operator, Nobody}
use Rattle.mds_request.proofs.Callers.{caller, call_of-caller}

-- a call is one that a client may make
abbrev pub IsBy : Actor → Result Call Code → Type 0
IsBy actor (Err code) = Unit {0}
IsBy Author (Ok (call.Author own)) = Unit {0}
IsBy Author (Ok (call.Operator place own)) = ⊥
IsBy (Operator place) (Ok (call.Author own)) = ⊥
IsBy (Operator place) (Ok (call.Operator other own)) = other ≡ place
IsBy Nobody (Ok (call.Author own)) = ⊥
IsBy Nobody (Ok (call.Operator place own)) = ⊥

by_caller : (given : Call) → IsBy (caller given) (Ok given)
by_caller (call.Author own) = tt
by_caller (call.Operator place own) = refl

refused_by : (actor : Actor) (code : Code) → IsBy actor (Err code)
refused_by Author code = tt
refused_by (Operator place) code = tt
refused_by Nobody code = tt

given_by : (actor : Actor) (called : Result Call Code) → ((given : Call) → called ≡ Ok given → actor ≡ caller given) → IsBy actor called
given_by actor (Ok given) asks = subst (λ a. IsBy a (Ok given)) (sym (asks given refl)) (by_caller given)
given_by actor (Err code) asks = refused_by actor code

pub call_by : (configuration : Configuration) (request : Request) → IsBy (actor_of configuration request.token) (call_of configuration request)
call_by configuration request =
    given_by (actor_of configuration request.token) (call_of configuration request) (call_of-caller configuration request)
