-- The index of an operator lies in the configuration.
use Rattle.std.proofs.Common.{◌≡◌, ℕ, ◌<◌, Bool, true, false, List, [], length, Option, Some, None, Ok, position, refl, subst}
use Rattle.std.specs.Prelude.{cond, bytes_eq}
use Rattle.std.proofs.lemmas.List.Quantifiers.{position-Some}
use Rattle.mds_request.specs.Call.{call_of}
use Rattle.mds_request.specs.Configuration.{Configuration, Operator, actor_of, has_token, operator_at}
use Rattle.mds_request.specs.Request.{Request}
use Rattle.mds_request.specs.declared.call.OperatorCall.{OperatorCall}
use Rattle.mds_request.specs.declared.call.Call.TheVariants as call
use Rattle.mds_request.specs.declared.config.Actor.TheVariants.{Author}
use Rattle.mds_request.proofs.Callers.{call_of-caller}
use Rattle.server_state.specs.Client.{IsWithin}

found_within : (operators : List Operator) (token : List ℕ) (found : Option ℕ) → position (has_token token) operators ≡ found → IsWithin (length operators) (operator_at found)
found_within operators token None is = tt
found_within operators token (Some place) is = (position-Some (has_token token) operators place (record { id = []; limit = 0; token = [] }) is).0

at : (configuration : Configuration) (token : List ℕ) (b : Bool) → IsWithin (length configuration.operators) (cond b Author (operator_at (position (has_token token) configuration.operators)))
at configuration token true = tt
at configuration token false = found_within configuration.operators token (position (has_token token) configuration.operators) refl

pub is_within : (configuration : Configuration) (token : List ℕ) → IsWithin (length configuration.operators) (actor_of configuration token)
is_within configuration token = at configuration token (bytes_eq configuration.author token)

-- an operator that calls has its index there
pub caller_within : (configuration : Configuration) (request : Request) (place : ℕ) (own : OperatorCall) → call_of configuration request ≡ Ok (call.Operator place own) → place < length configuration.operators
caller_within configuration request place own resolved =
    subst (IsWithin (length configuration.operators)) (call_of-caller configuration request (call.Operator place own) resolved) (is_within configuration request.token)
