-- The replies of the past, and the answer to a head.
use Rattle.std.proofs.Common.{◌≡◌, ◌⊎◌, ◌+◌, ℕ, List, [], ◌∷◌, ◌++◌, map, Option, Some, None, IfSome, MatchOption, Result, Ok, Err, IfOk, inl, inr, sym, ap, subst, ◌∙◌, arith}
use Rattle.std.specs.List.{range_with_len, slice_get}
use Rattle.std.proofs.lemmas.List.{map-append}
use Rattle.std.proofs.lemmas.List.FromFn.{map-range_with_len_more}
use Rattle.http.specs.declared.request.Parts.{Parts}
use Rattle.journal_entry.specs.Entries.{Entry}
use Rattle.journal_samples.specs.Replies.{IsReplyAt, reply_at}
use Rattle.journal_samples.specs.Standing.{Standing, new_standing}
use Rattle.mds_request.specs.Configuration.{Configuration, Operator, actor_of}
use Rattle.mds_request.specs.Reply.{Reply, refused}
use Rattle.mds_request.specs.Request.{Request, verb_of}
use Rattle.mds_request.specs.declared.call.OperatorCall.{OperatorCall}
use Rattle.mds_request.specs.declared.code.Code.{Code}
use Rattle.mds_request.specs.declared.code.Code.TheVariants.{NoMemory}
use Rattle.mds_request.specs.declared.config.Actor.{Actor}
use Rattle.server_admission.specs.declared.arrival.Arrived.{Arrived}
use Rattle.server_app.specs.OperatorNames.{Badges}
use Rattle.server_durable.specs.FleetViews.{own_request}
use Rattle.server_state.specs.Early.{unheard}
use Rattle.server_state.specs.HttpRequest.{target_of, token_of}
use Rattle.server_state.specs.WholeRequest.{IsHeard}
use Rattle.server_routes.specs.Past.{past_asked, past_in}
use Rattle.server_routes.specs.State.{state_call}
use Rattle.server_routes.specs.declared.app.FleetView.{FleetView}
use Rattle.server_routes.specs.declared.past.PastQuestion.{PastQuestion}
use Rattle.server_past.specs.Past.{IsPastReply, call_for, own_reply, reply_of}
use Rattle.server_past.specs.Response.{IsHeadReply, IsPastAnswer}

-- the question of a resolved head is that of its parts
pub question_is : (configuration : Configuration) (parts : Parts) (actor : Actor) (question : PastQuestion) → actor ≡ actor_of configuration (token_of parts.headers)
    → past_in (state_call actor (verb_of parts.method) (target_of parts.uri)) (target_of parts.uri) ≡ Some question
    → past_asked configuration parts ≡ Some question
question_is configuration parts actor question asks is =
    ap (λ who. past_in (state_call who (verb_of parts.method) (target_of parts.uri)) (target_of parts.uri)) (sym asks) ∙ is

module _ (configuration : Configuration) (badges : Badges) (tells : ℕ → List ℕ → Type 0) (parts : Parts) (arrived : Arrived) (reply : Reply) where
  -- the reply to a request that can be made of head and body is that to the head's question
  pub heard_reply : (at : Option ℕ) (request : Request) (question : PastQuestion) → IsHeard parts arrived at request
      → past_asked configuration parts ≡ Some question → IsPastReply configuration badges tells question request.at reply
      → IsPastAnswer configuration badges tells parts arrived at reply
  heard_reply None request question heard asked told = absurd (let none = heard.allowed in cc)
  heard_reply (Some now) request question heard asked told =
      subst (λ (first : Option Code). MatchOption first (IsHeadReply configuration badges tells parts reply now) (λ code. reply ≡ refused code))
      (sym heard.allowed)
      (question, asked, subst (λ (r : Request). IsPastReply configuration badges tells question r.at reply) heard.is_it told)

  -- where none can be made it is the refusal
  pub unheard_reply : (at : Option ℕ) (code : Code) → unheard arrived at ≡ Some code → reply ≡ refused code
      → IsPastAnswer configuration badges tells parts arrived at reply
  unheard_reply at code is same =
      subst (λ (first : Option Code). MatchOption first (IfSome at (IsHeadReply configuration badges tells parts reply)) (λ refusal. reply ≡ refused refusal))
      (sym is) same

-- the same of an answer that was made
pub heard_answer : {A E : Type 0} (reply_in : A → Reply) (configuration : Configuration) (badges : Badges) (tells : ℕ → List ℕ → Type 0) (parts : Parts)
    (arrived : Arrived) (at : Option ℕ) (request : Request) (question : PastQuestion) (answered : Result A E) → IsHeard parts arrived at request
    → past_asked configuration parts ≡ Some question
    → IfOk answered (λ answer. IsPastReply configuration badges tells question request.at (reply_in answer))
    → IfOk answered (λ answer. IsPastAnswer configuration badges tells parts arrived at (reply_in answer))
heard_answer reply_in configuration badges tells parts arrived at request question (Ok answer) heard asked told =
    heard_reply configuration badges tells parts arrived (reply_in answer) at request question heard asked told
heard_answer reply_in configuration badges tells parts arrived at request question (Err e) heard asked told = tt

-- ---- replies

-- an operator's reply, where a replay of its journal gives it or memory runs out
pub own_is : {E : Type 0} (c : Configuration) (entries : List Entry) (view : FleetView) (t place : ℕ) (o : Operator) (s : Standing) (own : OperatorCall)
    (request : Request) (replied : Result Reply E) → slice_get c.operators place ≡ Some o → s ≡ new_standing c place → own ≡ call_for view
    → request ≡ own_request o view t → IfOk replied (IsReplyAt s entries own request)
    → IfOk replied (λ reply. (reply ≡ own_reply c entries view t place) ⊎ (reply ≡ refused NoMemory))
own_is c entries view t place o s own request (Ok reply) there begun called asked told = elim told [
  | inl is ↦ inl
      (is ∙ ap (λ (x : Standing). reply_at x entries own request) begun
      ∙ ap (λ (x : OperatorCall). reply_at (new_standing c place) entries x request) called
      ∙ ap (λ (x : Request). reply_at (new_standing c place) entries (call_for view) x) asked
      ∙ sym (ap (reply_of c entries view t place) there))
  | inr refusal ↦ inr refusal
]
own_is c entries view t place o s own request (Err e) there begun called asked told = tt

-- with success it is the defined one
accepted : (reply own : Reply) → reply.status ≡ 200 → (reply ≡ own) ⊎ (reply ≡ refused NoMemory) → reply ≡ own
accepted reply own ok told = elim told [
  | inl is ↦ is
  | inr refusal ↦ absurd (let status : ◌≡◌ {A = ℕ} 503 200 = sym (ap (λ (r : Reply). r.status) refusal) ∙ ok in omega (arith, status))
]

-- one more operator's reply
pub one_more : (f : ℕ → Reply) (n : ℕ) (replies more : List Reply) (reply : Reply) → map (λ r. r.body) replies ≡ map (λ place. (f place).body) (range_with_len 0 n)
    → more ≡ replies ++ reply ∷ [] → reply.status ≡ 200 → (reply ≡ f n) ⊎ (reply ≡ refused NoMemory)
    → map (λ r. r.body) more ≡ map (λ place. (f place).body) (range_with_len 0 (n + 1))
one_more f n replies more reply so_far is ok told =
    let body : Reply → List ℕ = λ (r : Reply). r.body in
    let of_place : ℕ → List ℕ = λ (place : ℕ). (f place).body in
    ap (map body) is ∙ map-append body replies (reply ∷ []) ∙ ap (λ xs. xs ++ reply.body ∷ []) so_far
    ∙ ap (λ (r : Reply). map of_place (range_with_len 0 n) ++ r.body ∷ []) (accepted reply (f n) ok told)
    ∙ sym (map-range_with_len_more of_place 0 n n (omega arith))
