-- The response to the request of a head, by what the head is resolved to.
use Rattle.std.proofs.Common.{◌≡◌, ◌<◌, ℕ, List, length, Option, Some, None, option_map, unwrap_or, IfSome, MatchOption, Result, Ok, Err, IfOk, inl, refl, sym, ap, subst, ◌∙◌}
use Rattle.http.specs.declared.request.Parts.{Parts}
use Rattle.http.specs.declared.response.Response.{Response}
use Rattle.http_body_util.specs.declared.full.Full.{Full}
use Rattle.server_app.specs.OperatorNames.{Badges}
use Rattle.server_admission.specs.Arrival.{body_in}
use Rattle.server_admission.specs.declared.arrival.Arrived.{Arrived}
use Rattle.mds_request.specs.Call.{call_of, called_at, segments_of}
use Rattle.mds_request.specs.Configuration.{Configuration, actor_of}
use Rattle.mds_request.specs.Request.{Request, verb_of}
use Rattle.mds_request.specs.Reply.{refused}
use Rattle.mds_request.specs.declared.call.Call.{Call}
use Rattle.mds_request.specs.declared.code.Code.{Code}
use Rattle.mds_request.specs.declared.code.Code.TheVariants.{Role}
use Rattle.mds_request.specs.declared.config.Actor.{Actor}
use Rattle.mds_request.specs.declared.config.Actor.TheVariants.{Author, Operator, Nobody}
use Rattle.server_state.specs.Openings.{Openings}
use Rattle.server_state.specs.HttpRequest.{request_in, target_of, token_of}
use Rattle.server_state.specs.Client.{IsWithin}
use Rattle.server_state.specs.Early.{or_else, unheard, unknown}
use Rattle.server_state.specs.WholeRequest.{IsHeard, request_heard}
use Rattle.server_state.specs.Response.{Says}
use Rattle.server_state.specs.Turn.{SaysOne}
use Rattle.server_state.specs.declared.whole_request.WholeRequest.{WholeRequest}
use Rattle.server_state.proofs.Clients.{is_within}
use Rattle.server_state.proofs.Resolving.{heard_call}
use Rattle.server_routes.specs.App.{app_of}
use Rattle.server_routes.specs.State.{app_call, own_call, state_call}
use Rattle.server_routes.specs.declared.app.AppCall.{AppCall}
use Rattle.server_routes.specs.declared.app.AppCall.TheVariants.{Events, Fleet, FleetOf, NoOperator, Told}
use Rattle.server_routes.specs.declared.app.FleetView.TheVariants.{Compliance, Vehicles}
use Rattle.server_routes.specs.declared.app.Question.{Question}
use Rattle.server_routes.specs.declared.app.Question.TheVariants.{Whoami, Withdrawals, Drafts}
use Rattle.server_routes.specs.declared.state.StateCall.{StateCall}
use Rattle.server_routes.specs.declared.state.FleetQuestion.{FleetQuestion}
use Rattle.server_routes.specs.declared.state.FleetQuestion.TheVariants.{Own, Of, EachCompliance}
use Rattle.server_routes.specs.declared.state.StateCall.TheVariants.{Call as OfProtocol, Reports, AuthorAsks, OperatorAsks, AsksFleet}
use Rattle.server_durable.specs.DurableResponse.{Answers, IsAnswered, IsAnsweredAs, IsAnsweredBy, IsTold}
use Rattle.server_durable.specs.FleetViews.{IsAskedWithin, IsFleetReply}
use Rattle.server_durable.specs.ManyAnswers.{ManyAreAnswered}
use Rattle.server_durable.specs.People.{SaysTold, TellsAuthor, TellsOperator}
use Rattle.server_durable.specs.CacheControl.{Waits}
use Rattle.server_durable.proofs.Responses.{ok_more, waits_more}

-- by its path a request is a call outside the protocol, or one of it
abbrev way : Actor → Option (Result AppCall Code) → Result Call Code → Result StateCall Code
way actor found called = unwrap_or (option_map (app_call actor) found) (own_call called)

-- ---- what a call at the city's state says of the client, or of the call of the protocol

abbrev IsAskedBy : Actor → FleetQuestion → Type 0
IsAskedBy actor (Own place view) = actor ≡ Operator place
IsAskedBy actor (Of view id) = actor ≡ Author
IsAskedBy actor EachCompliance = actor ≡ Author

abbrev IsWay : Actor → Result Call Code → Result StateCall Code → Type 0
IsWay actor called (Ok (OfProtocol call)) = called ≡ Ok call
IsWay actor called (Ok (Reports place)) = actor ≡ Operator place
IsWay actor called (Ok (AuthorAsks question)) = actor ≡ Author
IsWay actor called (Ok (OperatorAsks place question)) = actor ≡ Operator place
IsWay actor called (Ok (AsksFleet question)) = IsAskedBy actor question
IsWay actor called (Err code) = Unit {0}

beside : (actor : Actor) (call : Result AppCall Code) (called : Result Call Code) → IsWay actor called (app_call actor call)
beside Nobody call called = tt
beside Author (Err code) called = tt
beside Author (Ok Events) called = tt
beside Author (Ok (Told question)) called = refl
beside Author (Ok (Fleet Compliance)) called = refl
beside Author (Ok (Fleet Vehicles)) called = tt
beside Author (Ok (FleetOf view id)) called = refl
beside Author (Ok NoOperator) called = tt
beside (Operator place) (Err code) called = tt
beside (Operator place) (Ok Events) called = refl
beside (Operator place) (Ok (Told Whoami)) called = refl
beside (Operator place) (Ok (Told Withdrawals)) called = refl
beside (Operator place) (Ok (Told Drafts)) called = tt
beside (Operator place) (Ok (Fleet view)) called = refl
beside (Operator place) (Ok (FleetOf view id)) called = tt
beside (Operator place) (Ok NoOperator) called = tt

of_protocol : (actor : Actor) (called : Result Call Code) → IsWay actor called (own_call called)
of_protocol actor (Ok call) = refl
of_protocol actor (Err code) = tt

is_way : (actor : Actor) (found : Option (Result AppCall Code)) (called : Result Call Code) → IsWay actor called (way actor found called)
is_way actor None called = of_protocol actor called
is_way actor (Some call) called = beside actor call called

-- the head of this request is resolved to this
pub record IsResolved (configuration : Configuration) (request : Request) (call : Result StateCall Code) : Type 0 where
  pub is_it : call ≡ state_call (actor_of configuration request.token) request.verb request.target
  pub called : call_of configuration request ≡ called_at (actor_of configuration request.token) request.verb (segments_of request.target)

pub resolved : (configuration : Configuration) (heard : WholeRequest) (parts : Parts) (actor : Actor) (call : Result StateCall Code) → heard.parts.now ≡ parts
    → actor ≡ actor_of configuration (token_of parts.headers) → call ≡ state_call actor (verb_of parts.method) (target_of parts.uri)
    → IsResolved configuration (request_heard heard) call
resolved configuration heard parts actor call same asks calls =
    record {
      is_it =
          calls ∙ ap (λ who. state_call who (verb_of parts.method) (target_of parts.uri)) asks
          ∙ ap (λ (p : Parts). state_call (actor_of configuration (token_of p.headers)) (verb_of p.method) (target_of p.uri)) (sym same);
      called = heard_call configuration heard;
    }

module _ (configuration : Configuration) (request : Request) (call : Result StateCall Code) (head : IsResolved configuration request call) where
  its_way : (other : Result StateCall Code) → call ≡ other
      → IsWay (actor_of configuration request.token) (called_at (actor_of configuration request.token) request.verb (segments_of request.target)) other
  its_way other is =
      let actor = actor_of configuration request.token in
      let called = called_at actor request.verb (segments_of request.target) in
      subst (IsWay actor called) (sym head.is_it ∙ is) (is_way actor (app_of request) called)

  -- a call of the protocol is the request's call
  pub called_is : (own : Call) → call ≡ Ok (OfProtocol own) → call_of configuration request ≡ Ok own
  called_is own is = head.called ∙ its_way (Ok (OfProtocol own)) is

  -- reports are sent by an operator
  pub reporter_is : (place : ℕ) → call ≡ Ok (Reports place) → actor_of configuration request.token ≡ Operator place
  reporter_is place is = its_way (Ok (Reports place)) is

  -- an operator that asks a question has its place in the configuration
  pub client_within : (place : ℕ) (question : Question) → call ≡ Ok (OperatorAsks place question) → place < length configuration.operators
  client_within place question is =
      subst (IsWithin (length configuration.operators)) (its_way (Ok (OperatorAsks place question)) is) (is_within configuration request.token)

  -- so has one that asks for a view of its own fleet
  pub asker_within : (question : FleetQuestion) → call ≡ Ok (AsksFleet question) → IsAskedWithin (length configuration.operators) question
  asker_within (Own place view) is =
      subst (IsWithin (length configuration.operators)) (its_way (Ok (AsksFleet (Own place view))) is) (is_within configuration request.token)
  asker_within (Of view id) is = tt
  asker_within EachCompliance is = tt

-- ---- the response

-- the response by what the head is resolved to
abbrev pub Gives : Configuration → Openings → Badges → Actor → Request → List (List ℕ) → Response (Full (List ℕ)) → Result StateCall Code → Type 0
Gives configuration openings badges actor request stamp response (Ok (OfProtocol call)) = IsAnsweredBy configuration openings actor request stamp response
Gives configuration openings badges actor request stamp response (Ok (Reports place)) = ManyAreAnswered configuration openings place request stamp response
Gives configuration openings badges actor request stamp response (Ok (AuthorAsks question)) = SaysTold (TellsAuthor configuration badges question) response
Gives configuration openings badges actor request stamp response (Ok (OperatorAsks place question)) = SaysTold (TellsOperator configuration badges place question) response
Gives configuration openings badges actor request stamp response (Ok (AsksFleet question)) = SaysOne (IsFleetReply configuration badges request.at question) response
Gives configuration openings badges actor request stamp response (Err code) = Says response (refused code)

module _ (configuration : Configuration) (openings : Openings) (badges : Badges) (request : Request) (stamp : List (List ℕ)) (response : Response (Full (List ℕ))) where
  -- an anonymous client is refused for its token; otherwise the path says what the response is
  abbrev Tells : Actor → Option (Result AppCall Code) → Type 0
  Tells actor found =
      MatchOption (unknown actor)
      (MatchOption found (IsAnsweredAs configuration openings actor request stamp response (call_of configuration request)) (λ call. IsTold configuration openings badges actor request call stamp response))
      (λ code. Says response (refused code))

  module _ (calls : call_of configuration request ≡ called_at (actor_of configuration request.token) request.verb (segments_of request.target)) where
    -- what the table of calls refuses is told without a turn
    as_call : (actor : Actor) (called : Result Call Code) → Gives configuration openings badges actor request stamp response (own_call called)
        → IsAnsweredAs configuration openings actor request stamp response called
    as_call actor (Ok call) gives = gives
    as_call actor (Err code) says = says

    by_call : (actor : Actor) → actor_of configuration request.token ≡ actor
        → Gives configuration openings badges actor request stamp response (own_call (called_at actor request.verb (segments_of request.target)))
        → IsAnsweredAs configuration openings actor request stamp response (call_of configuration request)
    by_call actor asks gives =
        let called = called_at actor request.verb (segments_of request.target) in
        subst (IsAnsweredAs configuration openings actor request stamp response)
        (sym (calls ∙ ap (λ who. called_at who request.verb (segments_of request.target)) asks)) (as_call actor called gives)

    tells : (actor : Actor) (found : Option (Result AppCall Code)) → actor_of configuration request.token ≡ actor
        → Gives configuration openings badges actor request stamp response (way actor found (called_at actor request.verb (segments_of request.target)))
        → Tells actor found
    tells Nobody None asks says = says
    tells Nobody (Some call) asks says = says
    tells Author None asks gives = by_call Author asks gives
    tells Author (Some (Err code)) asks says = says
    tells Author (Some (Ok Events)) asks says = says
    tells Author (Some (Ok (Told question))) asks says = says
    tells Author (Some (Ok (Fleet Compliance))) asks says = says
    tells Author (Some (Ok (Fleet Vehicles))) asks says = says
    tells Author (Some (Ok (FleetOf view id))) asks says = says
    tells Author (Some (Ok NoOperator)) asks says = says
    tells (Operator place) None asks gives = by_call (Operator place) asks gives
    tells (Operator place) (Some (Err code)) asks says = says
    tells (Operator place) (Some (Ok Events)) asks answered = answered
    tells (Operator place) (Some (Ok (Told Whoami))) asks says = says
    tells (Operator place) (Some (Ok (Told Withdrawals))) asks says = says
    tells (Operator place) (Some (Ok (Told Drafts))) asks says = (refused Role, inl (λ publications. refl), says)
    tells (Operator place) (Some (Ok (Fleet view))) asks says = says
    tells (Operator place) (Some (Ok (FleetOf view id))) asks says = says
    tells (Operator place) (Some (Ok NoOperator)) asks says = says

  told_by : (call : Result StateCall Code) → IsResolved configuration request call
      → Gives configuration openings badges (actor_of configuration request.token) request stamp response call → Tells (actor_of configuration request.token) (app_of request)
  told_by call head gives =
      let actor = actor_of configuration request.token in
      tells head.called actor (app_of request) refl (subst (Gives configuration openings badges actor request stamp response) head.is_it gives)

module _ (configuration : Configuration) (openings : Openings) (badges : Badges) (parts : Parts) (arrived : Arrived) (stamp : List (List ℕ)) (response : Response (Full (List ℕ))) where
  -- the response to a request that can be made of head and body is the answer to it
  heard_answers : (at : Option ℕ) (request : Request) → IsHeard parts arrived at request
      → Tells configuration openings badges request stamp response (actor_of configuration request.token) (app_of request)
      → Answers configuration openings badges parts arrived at stamp response
  heard_answers None request heard told = absurd (let no = heard.allowed in cc)
  heard_answers (Some moment) request heard told =
      let one = request_in parts (body_in arrived) moment in
      subst (λ (first : Option Code). MatchOption (or_else first (unknown (actor_of configuration one.token)))
      (IsAnswered configuration openings badges one stamp response) (λ code. Says response (refused code)))
      (sym heard.allowed)
      (subst (λ (r : Request). Tells configuration openings badges r stamp response (actor_of configuration r.token) (app_of r)) heard.is_it told)

  -- so is the refusal where none can be made
  unheard_answers : (at : Option ℕ) (code : Code) → unheard arrived at ≡ Some code → Says response (refused code)
      → Answers configuration openings badges parts arrived at stamp response
  unheard_answers at code is says =
      subst (λ (first : Option Code). MatchOption (or_else first (unknown (actor_of configuration (token_of parts.headers))))
      (IfSome at (λ moment. IsAnswered configuration openings badges (request_in parts (body_in arrived) moment) stamp response)) (λ refusal. Says response (refused refusal)))
      (sym is) says

module _ {V E : Type 0} (reply : V → Option (Response (Full (List ℕ)))) (stamp : V → List (List ℕ))
    (configuration : Configuration) (openings : Openings) (badges : Badges) (parts : Parts) (arrived : Arrived) (at : Option ℕ) where
  -- the response that waits is such an answer
  pub answered : (result : Result V E) (request : Request) (call : Result StateCall Code) → IsHeard parts arrived at request → IsResolved configuration request call
      → IfOk result (λ s. Waits (λ response. Gives configuration openings badges (actor_of configuration request.token) request (stamp s) response call) (reply s))
      → IfOk result (λ s. Waits (Answers configuration openings badges parts arrived at (stamp s)) (reply s))
  answered result request call heard head =
      ok_more result (λ s. waits_more (reply s) (λ response gives.
      heard_answers configuration openings badges parts arrived (stamp s) response at request heard (told_by configuration openings badges request (stamp s) response call head gives)))

  pub refused_early : (result : Result V E) (code : Code) → unheard arrived at ≡ Some code
      → IfOk result (λ s. Waits (λ response. Says response (refused code)) (reply s))
      → IfOk result (λ s. Waits (Answers configuration openings badges parts arrived at (stamp s)) (reply s))
  refused_early result code is =
      ok_more result (λ s. waits_more (reply s) (λ response. unheard_answers configuration openings badges parts arrived (stamp s) response at code is))
