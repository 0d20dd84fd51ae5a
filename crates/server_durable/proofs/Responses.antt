-- A city's responses.
use Rattle.std.proofs.Common.{◌≡◌, ◌⊎◌, ◌≤◌, ℕ, Bool, true, false, List, length, Option, Some, None, IfSome, MatchOption, Result, Ok, Err, IfOk, inl, inr, nat_lt, if◌then◌else◌, refl, sym, ap, subst, ◌∙◌}
use Rattle.std.proofs.lemmas.Bool.{ltb-false}
use Rattle.http.specs.declared.request.Parts.{Parts}
use Rattle.http.specs.declared.response.Response.{Response}
use Rattle.http_body_util.specs.declared.full.Full.{Full}
use Rattle.server_app.specs.OperatorNames.{Badges}
use Rattle.server_admission.specs.Arrival.{body_in}
use Rattle.server_admission.specs.declared.arrival.Arrived.{Arrived}
use Rattle.server_admission.specs.declared.arrival.Arrived.TheVariants.{Whole, Broken, TooLong, NoMemory}
use Rattle.mds_request.specs.Call.{call_of, called_at, segments_of}
use Rattle.mds_request.specs.Configuration.{Configuration, actor_of}
use Rattle.mds_request.specs.Request.{Request, verb_of}
use Rattle.mds_request.specs.Reply.{Reply, refused}
use Rattle.mds_request.specs.declared.call.Call.{Call}
use Rattle.mds_request.specs.declared.call.Call.TheVariants.{Author as OfAuthor, Operator as OfOperator}
use Rattle.mds_request.specs.declared.call.TheConstants.{MOST_BODY}
use Rattle.mds_request.specs.declared.code.Code.{Code}
use Rattle.mds_request.specs.declared.code.Code.TheVariants.{TooLarge}
use Rattle.mds_request.specs.declared.config.Actor.{Actor}
use Rattle.mds_request.specs.declared.config.Actor.TheVariants.{Author, Operator, Nobody}
use Rattle.mds_request.proofs.Callers.{call_of-caller}
use Rattle.server_state.specs.Early.{or_else, unheard, unknown}
use Rattle.server_state.specs.HttpRequest.{request_in, target_of, token_of}
use Rattle.server_state.specs.Openings.{Openings}
use Rattle.server_state.specs.Resolved.{call_in}
use Rattle.server_state.specs.Respond as hall
use Rattle.server_state.specs.Respond.{TurnGives}
use Rattle.server_state.specs.Response.{Says}
use Rattle.server_state.specs.Turn.{SaysOne}
use Rattle.server_state.proofs.Resolving.{call_with_body}
use Rattle.server_routes.specs.App.{app_of}
use Rattle.server_durable.specs.DurableResponse.{Answers, IsAnswered, IsAnsweredAs, IsAnsweredBy, IsListed, IsRecordedTurn, IsTold}
use Rattle.server_durable.specs.People.{IsToldReply, SaysTold}
use Rattle.server_durable.specs.Refusals.{SaysUnheld}
use Rattle.server_durable.specs.CacheControl.{Waits}
use Rattle.server_routes.specs.declared.app.AppCall.{AppCall}

module _ (configuration : Configuration) (openings : Openings) (request : Request) (stamp : List (List ℕ)) (response : Response (Full (List ℕ))) where
  -- the reply of a turn is that of the room or the desk whose call it is
  one_is : (call : Call) → call_of configuration request ≡ Ok call → IsAnsweredBy configuration openings (actor_of configuration request.token) request stamp response
      → SaysUnheld response ⊎ hall.IsAnsweredAs configuration request response (Ok call)
  one_is call is (inl unheld) = inl unheld
  one_is (OfAuthor own) is (inr carried) =
      inr (carried.reply, subst (λ who. TurnGives configuration who request carried.reply) (call_of-caller configuration request (OfAuthor own) is) carried.turn.turn, carried.says)
  one_is (OfOperator place own) is (inr carried) =
      inr (carried.reply, subst (λ who. TurnGives configuration who request carried.reply) (call_of-caller configuration request (OfOperator place own) is) carried.turn.turn, carried.says)

  called_is : (called : Result Call Code) → call_of configuration request ≡ called → IsAnsweredAs configuration openings (actor_of configuration request.token) request stamp response called
      → SaysUnheld response ⊎ hall.IsAnsweredAs configuration request response called
  called_is (Ok call) is answered = one_is call is answered
  called_is (Err code) is says = inr says

none_is : {A : Type 0} (P : Type 0) (Q : A → Type 0) (o : Option A) → o ≡ None → MatchOption o P Q → P
none_is P Q None none is = is
none_is P Q (Some a) none is = absurd cc

not_large : (is_large : Bool) → ◌≡◌ {A = Option Code} (if is_large then Some TooLarge else None) None → is_large ≡ false
not_large true is = absurd cc
not_large false is = refl

-- a body that isn't refused is within its limit
within_limit : (arrived : Arrived) (moment : ℕ) → unheard arrived (Some moment) ≡ None → length (body_in arrived) ≤ MOST_BODY
within_limit (Whole body) moment is = ltb-false _ _ (not_large (nat_lt MOST_BODY (length body)) is)
within_limit Broken moment is = absurd cc
within_limit TooLong moment is = absurd cc
within_limit NoMemory moment is = absurd cc

module _ (configuration : Configuration) (openings : Openings) (badges : Badges) (parts : Parts) (arrived : Arrived) (stamp : List (List ℕ)) (response : Response (Full (List ℕ))) where
  abbrev asked : ℕ → Request
  asked moment = request_in parts (body_in arrived) moment

  of_client : (moment : ℕ) → app_of (asked moment) ≡ None → IsAnswered configuration openings badges (asked moment) stamp response
      → SaysUnheld response ⊎ hall.IsAnswered configuration (asked moment) response
  of_client moment plain told =
      let actor = actor_of configuration (asked moment).token in
      let called = call_of configuration (asked moment) in
      called_is configuration openings (asked moment) stamp response called refl
      (none_is (IsAnsweredAs configuration openings actor (asked moment) stamp response called)
      (λ (call : Result AppCall Code). IsTold configuration openings badges actor (asked moment) call stamp response) (app_of (asked moment)) plain told)

  -- an anonymous client is refused by the table of calls too
  by_client : (moment : ℕ) → call_of configuration (asked moment) ≡ call_in configuration parts → app_of (asked moment) ≡ None
      → (who : Actor) → actor_of configuration (token_of parts.headers) ≡ who
      → MatchOption (unknown who) (IsAnswered configuration openings badges (asked moment) stamp response) (λ code. Says response (refused code))
      → SaysUnheld response ⊎ hall.IsAnswered configuration (asked moment) response
  by_client moment calls plain Nobody asks says =
      let called = ap (λ who. called_at who (verb_of parts.method) (segments_of (target_of parts.uri))) asks in
      inr (subst (hall.IsAnsweredAs configuration (asked moment) response) (sym (calls ∙ called)) says)
  by_client moment calls plain Author asks told = of_client moment plain told
  by_client moment calls plain (Operator place) asks told = of_client moment plain told

  by_moment : (at : Option ℕ) → unheard arrived at ≡ None → ((moment : ℕ) → app_of (asked moment) ≡ None)
      → MatchOption (unknown (actor_of configuration (token_of parts.headers))) (IfSome at (λ moment. IsAnswered configuration openings badges (asked moment) stamp response))
      (λ code. Says response (refused code))
      → SaysUnheld response ⊎ IfSome at (λ moment. hall.IsAnswered configuration (asked moment) response)
  by_moment None is plain told = inr tt
  by_moment (Some moment) is plain told =
      by_client moment (call_with_body configuration parts (body_in arrived) moment (within_limit arrived moment is)) (plain moment)
      (actor_of configuration (token_of parts.headers)) refl told

  by_first : (at : Option ℕ) (first : Option Code) → unheard arrived at ≡ first → ((moment : ℕ) → app_of (asked moment) ≡ None)
      → MatchOption (or_else first (unknown (actor_of configuration (token_of parts.headers)))) (IfSome at (λ moment. IsAnswered configuration openings badges (asked moment) stamp response))
      (λ code. Says response (refused code))
      → SaysUnheld response ⊎ MatchOption first (IfSome at (λ moment. hall.IsAnswered configuration (asked moment) response)) (λ code. Says response (refused code))
  by_first at (Some code) is plain says = inr says
  by_first at None is plain told = by_moment at is plain told

  -- where what is needed of the log is reserved, the response to a call of the protocol is a hall's
  pub as_a_hall : (at : Option ℕ) → ((moment : ℕ) → app_of (asked moment) ≡ None) → Answers configuration openings badges parts arrived at stamp response
      → SaysUnheld response ⊎ hall.Responds configuration parts arrived at response
  as_a_hall at plain answers = by_first at (unheard arrived at) refl plain answers

pub waits_more : {P Q : Response (Full (List ℕ)) → Type 0} (reply : Option (Response (Full (List ℕ)))) → ((response : Response (Full (List ℕ))) → P response → Q response)
    → Waits P reply → Waits Q reply
waits_more reply imply waits = (waits.0, waits.1, waits.2, waits.3, imply waits.1 waits.4)

pub ok_more : {V E : Type 0} {P Q : V → Type 0} (result : Result V E) → ((v : V) → P v → Q v) → IfOk result P → IfOk result Q
ok_more (Ok v) imply p = imply v p
ok_more (Err e) imply p = tt

-- this holds of the response that waits
pub waits_for : {V E : Type 0} (P : Response (Full (List ℕ)) → Type 0) (reply : V → Option (Response (Full (List ℕ)))) (result : Result V E) (response : Response (Full (List ℕ)))
    → IfOk result (λ s. Waits (λ plain. plain ≡ response) (reply s)) → P response → IfOk result (λ s. Waits P (reply s))
waits_for P reply result response is p = ok_more result (λ s. waits_more (reply s) (λ plain same. subst P (sym same) p)) is

-- the response with such a reply
pub waits_told : {V E : Type 0} (Kind : Reply → Type 0) (reply : V → Option (Response (Full (List ℕ)))) (result : Result V E) (told : Reply)
    → IfOk result (λ s. Waits (λ response. Says response told) (reply s)) → IsToldReply Kind told → IfOk result (λ s. Waits (SaysTold Kind) (reply s))
waits_told Kind reply result told says is = ok_more result (λ s. waits_more (reply s) (λ response here. (told, is, here))) says

-- the response with a reply of this kind
pub waits_one : {V E : Type 0} (Kind : Reply → Type 0) (reply : V → Option (Response (Full (List ℕ)))) (result : Result V E) (told : Reply)
    → IfOk result (λ s. Waits (λ response. Says response told) (reply s)) → Kind told → IfOk result (λ s. Waits (SaysOne Kind) (reply s))
waits_one Kind reply result told says is = ok_more result (λ s. waits_more (reply s) (λ response here. (told, is, here))) says

told_more : {Kind Other : Reply → Type 0} → ((reply : Reply) → Kind reply → Other reply) → (reply : Reply) → IsToldReply Kind reply → IsToldReply Other reply
told_more imply reply (inl is) = inl (imply reply is)
told_more imply reply (inr refused) = inr refused

-- the same for a kind that this one implies
pub waits_kind : {V E : Type 0} (Kind Other : Reply → Type 0) (reply : V → Option (Response (Full (List ℕ)))) (result : Result V E)
    → ((r : Reply) → Kind r → Other r) → IfOk result (λ s. Waits (SaysTold Kind) (reply s)) → IfOk result (λ s. Waits (SaysTold Other) (reply s))
waits_kind Kind Other reply result imply says =
    ok_more result (λ s. waits_more (reply s) (λ response one. (one.0, told_more imply one.0 one.1, one.2))) says

-- the response to a request is the reply of its recorded turn
pub waits_turn : {V E : Type 0} (reply : V → Option (Response (Full (List ℕ)))) (stamp : V → List (List ℕ)) (configuration : Configuration) (openings : Openings) (actor : Actor) (request : Request)
    (result : Result V E) (told : Reply) (texts : List (List ℕ)) → IsRecordedTurn configuration actor request told texts
    → IsListed configuration openings actor request told texts → IfOk result (λ s. Waits (λ response. Says response told) (reply s)) → IfOk result (λ s. stamp s ≡ texts)
    → IfOk result (λ s. Waits (IsAnsweredBy configuration openings actor request (stamp s)) (reply s))
waits_turn reply stamp configuration openings actor request (Ok s) told texts turn listed says is = (
  says.0,
  says.1,
  says.2,
  says.3,
  inr (record {
    reply = told;
    turn = subst (IsRecordedTurn configuration actor request told) (sym is) turn;
    listed = subst (IsListed configuration openings actor request told) (sym is) listed;
    says = says.4;
  }),
)
waits_turn reply stamp configuration openings actor request (Err e) told texts turn listed says is = tt
