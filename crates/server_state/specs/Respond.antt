-- How an HTTP request is answered.
use Rattle.std.specs.Prelude.{ℕ, List, Option, IfSome, MatchOption, Result, Ok, Err}
use Rattle.http.specs.declared.request.Parts.{Parts}
use Rattle.http.specs.declared.response.Response.{Response}
use Rattle.http_body_util.specs.declared.full.Full.{Full}
use Rattle.server_admission.specs.Arrival.{body_in}
use Rattle.server_admission.specs.declared.arrival.Arrived.{Arrived}
use Rattle.mds_request.specs.Call.{call_of}
use Rattle.mds_request.specs.Configuration.{Configuration}
use Rattle.mds_request.specs.Request.{Request}
use Rattle.mds_request.specs.Reply.{Reply, refused}
use Rattle.mds_request.specs.declared.call.Call.{Call}
use Rattle.mds_request.specs.declared.call.Call.TheVariants as call
use Rattle.mds_request.specs.declared.code.Code.{Code}
use Rattle.mds_request.specs.declared.config.Actor.{Actor}
use Rattle.mds_request.specs.declared.config.Actor.TheVariants.{Author, Operator, Nobody}
use Rattle.server_state.specs.HttpRequest.{request_in}
use Rattle.server_state.specs.Early.{unheard}
use Rattle.server_state.specs.Response.{Says}
use Rattle.server_state.specs.Turn.{DeskReplies, RoomReplies, SaysOne}

-- One turn of the client, on this request, gives the reply: of the operator's own desk or of the author's room. An
-- anonymous client has none.
abbrev pub TurnGives : Configuration → Actor → Request → Reply → Type 0
TurnGives configuration (Operator place) request reply = DeskReplies configuration place request reply
TurnGives configuration Author request reply = RoomReplies configuration request reply
TurnGives configuration Nobody request reply = ⊥

-- A call of the author is answered by one turn of the room, and one of an operator by one turn of its own desk. What
-- the table of calls refuses is answered with that refusal, without a turn.
abbrev pub IsAnsweredAs : Configuration → Request → Response (Full (List ℕ)) → Result Call Code → Type 0
IsAnsweredAs configuration request response (Ok (call.Author own)) = SaysOne (RoomReplies configuration request) response
IsAnsweredAs configuration request response (Ok (call.Operator place own)) = SaysOne (DeskReplies configuration place request) response
IsAnsweredAs configuration request response (Err code) = Says response (refused code)

-- a request with a whole body is answered as its call
abbrev pub IsAnswered : Configuration → Request → Response (Full (List ℕ)) → Type 0
IsAnswered configuration request response = IsAnsweredAs configuration request response (call_of configuration request)

-- A request without a moment, or without a body within its limit, is refused so. Any other is answered: that of this
-- head and body at this moment.
abbrev pub Responds : Configuration → Parts → Arrived → Option ℕ → Response (Full (List ℕ)) → Type 0
Responds configuration parts arrived at response =
    MatchOption (unheard arrived at)
    (IfSome at (λ moment. IsAnswered configuration (request_in parts (body_in arrived) moment) response))
    (λ code. Says response (refused code))
