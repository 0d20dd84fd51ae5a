-- What a head is resolved to is what its request calls for, and names its client.
use Rattle.std.proofs.Common.{◌≡◌, ℕ, ◌≤◌, Bool, true, false, cond, List, [], ◌∷◌, length, refl, ap, Option, Some, None, Result, Ok, Err}
use Rattle.std.proofs.lemmas.Bool.{le-ltb}
use Rattle.http.specs.declared.request.Parts.{Parts}
use Rattle.mds_request.specs.Call.{Row, call_among, call_of, call_with, called_at, id_in, is_verb, made, rows_at, segments_of}
use Rattle.mds_request.specs.Configuration.{Configuration, actor_of}
use Rattle.mds_request.specs.Request.{verb_of}
use Rattle.mds_request.specs.declared.call.Call.{Call}
use Rattle.mds_request.specs.declared.call.TheConstants.{MOST_BODY}
use Rattle.mds_request.specs.declared.code.Code.{Code}
use Rattle.mds_request.specs.declared.code.Code.TheVariants.{TooLarge, Token, NoRoute, Method}
use Rattle.mds_request.specs.declared.config.Actor.{Actor}
use Rattle.mds_request.specs.declared.config.Actor.TheVariants.{Author, Operator, Nobody}
use Rattle.mds_request.specs.declared.request.Verb.{Verb}
use Rattle.mds_request.proofs.Callers.{call_of-caller, caller}
use Rattle.server_state.specs.HttpRequest.{request_in, target_of, token_of}
use Rattle.server_state.specs.WholeRequest.{request_heard}
use Rattle.server_state.specs.Resolved.{call_in}
use Rattle.server_state.specs.declared.whole_request.WholeRequest.{WholeRequest}

-- the request of a head with a body within its limit calls for what the head calls for
pub call_with_body : (configuration : Configuration) (parts : Parts) (body : List ℕ) (at : ℕ) → length body ≤ MOST_BODY
    → call_of configuration (request_in parts body at) ≡ call_in configuration parts
call_with_body configuration parts body at within =
    ap (λ big. cond big (Err TooLarge) (call_in configuration parts)) (le-ltb _ _ within)

-- so does a request whose body has arrived
pub heard_call : (configuration : Configuration) (heard : WholeRequest) → call_of configuration (request_heard heard) ≡ call_in configuration heard.parts.now
heard_call configuration heard =
    call_with_body configuration heard.parts.now heard.body.now heard.at heard.within

-- a call is by the client whose access token the head carries
pub caller_in : (configuration : Configuration) (parts : Parts) (call : Call) → call_in configuration parts ≡ Ok call
    → actor_of configuration (token_of parts.headers) ≡ caller call
caller_in configuration parts call is =
    call_of-caller configuration (request_in parts [] 0) call is

-- no row of the table refuses an access token
by_row : (make : Option (List ℕ → Call)) (id : Option (List ℕ)) → call_with make id ≡ Err Token → ⊥
by_row None id is = cc
by_row (Some f) None is = cc
by_row (Some f) (Some i) is = cc

here_or_later : (here later : Result Call Code) (found : Bool) → (here ≡ Err Token → ⊥) → (later ≡ Err Token → ⊥) → cond found here later ≡ Err Token → ⊥
here_or_later here later true h l is = h is
here_or_later here later false h l is = l is

-- nor do all of them
among : (actor : Actor) (verb : Verb) (segments : List (List ℕ)) (refusal : Code) (rows : List Row) → (refusal ≡ Token → ⊥)
    → call_among actor verb segments refusal rows ≡ Err Token → ⊥
among actor verb segments refusal [] other is =
    other (let same : ◌≡◌ {A = Result Call Code} (Err refusal) (Err Token) = is in cc)
among actor verb segments refusal (row ∷ rows) other is =
    here_or_later _ _ (is_verb verb row.verb) (by_row (made actor row) (id_in row.path segments)) (among actor verb segments Method rows (λ same. cc)) is

at_token : (actor : Actor) (verb : Verb) (segments : List (List ℕ)) → called_at actor verb segments ≡ Err Token → actor ≡ Nobody
at_token Author verb segments is =
    absurd (among Author verb segments NoRoute (rows_at segments) (λ same. cc) is)
at_token (Operator place) verb segments is =
    absurd (among (Operator place) verb segments NoRoute (rows_at segments) (λ same. cc) is)
at_token Nobody verb segments is = refl

-- an access token is refused where no client has it
pub nobody_in : (configuration : Configuration) (parts : Parts) → call_in configuration parts ≡ Err Token
    → actor_of configuration (token_of parts.headers) ≡ Nobody
nobody_in configuration parts is =
    at_token (actor_of configuration (token_of parts.headers)) (verb_of parts.method) (segments_of (target_of parts.uri)) is
