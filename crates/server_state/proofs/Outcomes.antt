-- How a request with a whole body is answered.
use Rattle.std.proofs.Common.{◌≡◌, ℕ, List, Result, Ok, Err, sym, subst}
use Rattle.http.specs.declared.response.Response.{Response}
use Rattle.http_body_util.specs.declared.full.Full.{Full}
use Rattle.mds_request.specs.Call.{call_of}
use Rattle.mds_request.specs.Configuration.{Configuration}
use Rattle.mds_request.specs.Request.{Request}
use Rattle.mds_request.specs.Reply.{Reply, refused}
use Rattle.mds_request.specs.declared.call.AuthorCall.{AuthorCall}
use Rattle.mds_request.specs.declared.call.Call.{Call}
use Rattle.mds_request.specs.declared.call.OperatorCall.{OperatorCall}
use Rattle.mds_request.specs.declared.call.Call.TheVariants as call
use Rattle.mds_request.specs.declared.code.Code.{Code}
use Rattle.server_state.specs.Respond.{IsAnswered, IsAnsweredAs}
use Rattle.server_state.specs.Response.{Says}
use Rattle.server_state.specs.Turn.{DeskReplies, RoomReplies}

module _ (configuration : Configuration) (request : Request) (reply : Reply) (response : Response (Full (List ℕ))) (says : Says response reply) where
  answered : (called : Result Call Code) → call_of configuration request ≡ called → IsAnsweredAs configuration request response called
      → IsAnswered configuration request response
  answered called is gives = subst (IsAnsweredAs configuration request response) (sym is) gives

  -- a refusal of the table of calls
  pub refusal_answered : (refusal : Code) → call_of configuration request ≡ Err refusal → reply ≡ refused refusal
      → IsAnswered configuration request response
  refusal_answered refusal resolved is = answered (Err refusal) resolved (subst (Says response) is says)

  -- a turn of the author's room
  pub room_answered : (own : AuthorCall) → call_of configuration request ≡ Ok (call.Author own) → RoomReplies configuration request reply
      → IsAnswered configuration request response
  room_answered own resolved gives = answered (Ok (call.Author own)) resolved (reply, gives, says)

  -- a turn of an operator's desk
  pub desk_answered : (place : ℕ) (own : OperatorCall) → call_of configuration request ≡ Ok (call.Operator place own) → DeskReplies configuration place request reply
      → IsAnswered configuration request response
  desk_answered place own resolved gives = answered (Ok (call.Operator place own)) resolved (reply, gives, says)
