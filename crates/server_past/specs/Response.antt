-- The response to a head that asks for a moment of the past.
use Rattle.std.specs.Prelude.{◌≡◌, ℕ, List, Option, Some, IfSome, MatchOption}
use Rattle.http.specs.declared.request.Parts.{Parts}
use Rattle.http.specs.declared.response.Response.{Response}
use Rattle.http_body_util.specs.declared.full.Full.{Full}
use Rattle.mds_request.specs.Configuration.{Configuration}
use Rattle.mds_request.specs.Reply.{Reply, refused}
use Rattle.server_admission.specs.declared.arrival.Arrived.{Arrived}
use Rattle.server_app.specs.OperatorNames.{Badges}
use Rattle.server_durable.specs.CacheControl.{Waits}
use Rattle.server_routes.specs.Past.{past_asked}
use Rattle.server_routes.specs.declared.past.PastQuestion.{PastQuestion}
use Rattle.server_state.specs.Early.{unheard}
use Rattle.server_state.specs.Turn.{SaysOne}
use Rattle.server_past.specs.Past.{IsPastReply, not_kept}
use Rattle.server_past.specs.declared.answer.PastAnswer.{PastAnswer}
use Rattle.server_past.specs.declared.answer.PastAnswer.TheVariants as answer

-- the reply that an answer has
abbrev pub reply_in : PastAnswer → Reply
reply_in (answer.Told reply) = reply
reply_in answer.NotKept = not_kept

-- the reply to the head's question about the past, at this moment
abbrev pub IsHeadReply : Configuration → Badges → (ℕ → List ℕ → Type 0) → Parts → Reply → ℕ → Type 0
IsHeadReply configuration badges tells parts reply now =
    (question : PastQuestion) × (past_asked configuration parts ≡ Some question) × IsPastReply configuration badges tells question now reply

-- A request without a moment, or without a body within its limit, is refused so. Any other has the reply to its question.
abbrev pub IsPastAnswer : Configuration → Badges → (ℕ → List ℕ → Type 0) → Parts → Arrived → Option ℕ → Reply → Type 0
IsPastAnswer configuration badges tells parts arrived at reply =
    MatchOption (unheard arrived at)
    (IfSome at (IsHeadReply configuration badges tells parts reply))
    (λ code. reply ≡ refused code)

-- The response has that reply, and no cache may store it.
abbrev pub PastResponds : Configuration → Badges → (ℕ → List ℕ → Type 0) → Parts → Arrived → Option ℕ → Option (Response (Full (List ℕ))) → Type 0
PastResponds configuration badges tells parts arrived at reply = Waits (SaysOne (IsPastAnswer configuration badges tells parts arrived at)) reply
