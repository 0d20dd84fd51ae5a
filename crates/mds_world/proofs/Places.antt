-- The place of an operator that makes a call is a place of the configuration.
use Rattle.std.proofs.Common.{◌≡◌, ℕ, ◌<◌, List, [], ◌∷◌, length, Bool, true, false, cond, bytes_eq, Option, Some, None, Ok, ap}
use Rattle.std.specs.List.{position}
use Rattle.std.proofs.lemmas.List.Quantifiers.{position-Some}
use Rattle.mds_request.specs.Call.{call_of}
use Rattle.mds_request.specs.Configuration.{Configuration, Operator, has_token, operator_at}
use Rattle.mds_request.specs.Request.{Request}
use Rattle.mds_request.specs.declared.call.OperatorCall.{OperatorCall}
use Rattle.mds_request.specs.declared.call.Call.TheVariants as call
use Rattle.mds_request.specs.declared.config.Actor.{Actor}
use Rattle.mds_request.specs.declared.config.Actor.TheVariants.{Author, Operator as OperatorAt}
use Rattle.mds_request.proofs.Callers.{operator_asks}

same_place : (i place : ℕ) → ◌≡◌ {A = Actor} (OperatorAt i) (OperatorAt place) → i ≡ place
same_place i place h = cc

found_at : (author : Bool) (found : Option ℕ) (place : ℕ) → cond author Author (operator_at found) ≡ OperatorAt place → found ≡ Some place
found_at true found place h = absurd (cc)
found_at false None place h = absurd (cc)
found_at false (Some i) place h = ap Some (same_place i place h)

within : (test : Operator → Bool) (operators : List Operator) (place : ℕ) → position test operators ≡ Some place → place < length operators
within test [] place h = absurd (cc)
within test (o ∷ operators) place h = (position-Some test (o ∷ operators) place o h).0

pub placed : (c : Configuration) (r : Request) (place : ℕ) (what : OperatorCall) → call_of c r ≡ Ok (call.Operator place what) → place < length c.operators
placed c r place what is =
    within (has_token r.token) c.operators place
    (found_at (bytes_eq c.author r.token) (position (has_token r.token) c.operators) place (operator_asks c r place what is))
