-- The response to an HTTP request, and what it shows.
use Rattle.std.specs.Prelude.{◌≡◌, ◌⊎◌, ℕ, true, List, Option, IfSome, MatchOption, Result, Ok, Err}
use Rattle.http.specs.declared.request.Parts.{Parts}
use Rattle.http.specs.declared.response.Response.{Response}
use Rattle.http_body_util.specs.declared.full.Full.{Full}
use Rattle.server_app.specs.OperatorNames.{Badges}
use Rattle.mds_request.specs.declared.code.Code.TheVariants.{BadId, Role}
use Rattle.mds_request.specs.Call.{call_of}
use Rattle.mds_request.specs.Configuration.{Configuration, actor_of}
use Rattle.mds_request.specs.Request.{Request}
use Rattle.mds_request.specs.Reply.{Reply, refused}
use Rattle.mds_request.specs.declared.call.Call.{Call}
use Rattle.mds_request.specs.declared.code.Code.{Code}
use Rattle.mds_request.specs.declared.config.Actor.{Actor}
use Rattle.mds_request.specs.declared.config.Actor.TheVariants.{Author, Operator, Nobody}
use Rattle.server_admission.specs.Arrival.{body_in}
use Rattle.server_admission.specs.declared.arrival.Arrived.{Arrived}
use Rattle.journal_laws.specs.Persisted.{is_kept}
use Rattle.server_state.specs.HttpRequest.{request_in}
use Rattle.server_state.specs.Openings.{BeginsAt, Openings}
use Rattle.server_state.specs.Early.{early}
use Rattle.server_state.specs.Respond.{TurnGives}
use Rattle.server_state.specs.Response.{Says}
use Rattle.server_state.specs.Turn.{SaysOne}
use Rattle.server_state.specs.TurnItem.{TurnItem}
use Rattle.server_state.specs.TurnList.{IsToldTurn}
use Rattle.server_admission.specs.Actor.{index_of}
use Rattle.server_durable.specs.Logged.{ShowsTurns}
use Rattle.server_durable.specs.Owners.{client_in}
use Rattle.server_durable.specs.RoomLogged.{IsLoggedRoomTurn}
use Rattle.server_routes.specs.App.{app_of}
use Rattle.server_durable.specs.FleetViews.{IsEachCompliance, IsOwnView, IsViewOf}
use Rattle.server_durable.specs.ManyAnswers.{ManyAreAnswered}
use Rattle.server_durable.specs.Records.{HasRecord}
use Rattle.server_durable.specs.People.{SaysTold, TellsAuthor, TellsOperator}
use Rattle.server_durable.specs.Refusals.{SaysUnheld}
use Rattle.server_durable.specs.CacheControl.{Waits}
use Rattle.server_routes.specs.declared.app.AppCall.{AppCall}
use Rattle.server_routes.specs.declared.app.AppCall.TheVariants.{Events, Fleet, FleetOf, NoOperator, Told}
use Rattle.server_routes.specs.declared.app.FleetView.TheVariants.{Compliance, Vehicles}

-- One turn for the client gives the reply. If a journal persists that exchange, its record is among these payloads.
pub record IsRecordedTurn (configuration : Configuration) (actor : Actor) (request : Request) (reply : Reply) (stamp : List (List ℕ)) : Type 0 where
  pub turn : TurnGives configuration actor request reply
  pub recorded : is_kept configuration (record { request = request; reply = reply }) ≡ true → HasRecord configuration request stamp

-- The turn that gives this reply is the last of a list of all turns of the client's desk, or of the author's room, which
-- begins as it was put behind its lock. The client's payloads among these begin with the records of all these turns, in
-- their order and with no other of the client's between.
abbrev pub IsListed : Configuration → Openings → Actor → Request → Reply → List (List ℕ) → Type 0
IsListed configuration openings (Operator place) request reply stamp =
    (items : List TurnItem) × BeginsAt openings place items × ∥ IsToldTurn configuration place request reply items ∥₁
    × ∥ ShowsTurns configuration (client_in configuration) (index_of (Operator place)) items stamp ∥₁
IsListed configuration openings Author request reply stamp =
    ∥ IsLoggedRoomTurn configuration (client_in configuration) openings.room request reply stamp ∥₁
IsListed configuration openings Nobody request reply stamp = Unit {0}

-- the response has the reply of such a turn
pub record IsCarriedOutBy (configuration : Configuration) (openings : Openings) (actor : Actor) (request : Request) (stamp : List (List ℕ)) (response : Response (Full (List ℕ))) : Type 0 where
  pub reply : Reply
  pub turn : IsRecordedTurn configuration actor request reply stamp
  pub listed : IsListed configuration openings actor request reply stamp
  pub says : Says response reply

-- nothing is reserved in the log, and the request wasn't carried out; or it was
abbrev pub IsAnsweredBy : Configuration → Openings → Actor → Request → List (List ℕ) → Response (Full (List ℕ)) → Type 0
IsAnsweredBy configuration openings actor request stamp response = SaysUnheld response ⊎ IsCarriedOutBy configuration openings actor request stamp response

-- The response to a call outside the protocol: a refusal, where the path doesn't have the method; the answers to an
-- operator's reports; or the answer to the client's question or a view of fleets, which have no record.
abbrev pub IsTold : Configuration → Openings → Badges → Actor → Request → Result AppCall Code → List (List ℕ) → Response (Full (List ℕ)) → Type 0
IsTold configuration openings badges actor request (Err code) stamp response = Says response (refused code)
IsTold configuration openings badges (Operator place) request (Ok Events) stamp response = ManyAreAnswered configuration openings place request stamp response
IsTold configuration openings badges Author request (Ok Events) stamp response = Says response (refused Role)
IsTold configuration openings badges (Operator place) request (Ok (Told question)) stamp response = SaysTold (TellsOperator configuration badges place question) response
IsTold configuration openings badges Author request (Ok (Told question)) stamp response = SaysTold (TellsAuthor configuration badges question) response
IsTold configuration openings badges (Operator place) request (Ok (Fleet view)) stamp response = SaysOne (IsOwnView configuration place view request.at) response
IsTold configuration openings badges (Operator place) request (Ok (FleetOf view id)) stamp response = Says response (refused Role)
IsTold configuration openings badges (Operator place) request (Ok NoOperator) stamp response = Says response (refused Role)
IsTold configuration openings badges Author request (Ok (Fleet Compliance)) stamp response = SaysOne (IsEachCompliance configuration badges request.at) response
IsTold configuration openings badges Author request (Ok (Fleet Vehicles)) stamp response = Says response (refused Role)
IsTold configuration openings badges Author request (Ok NoOperator) stamp response = Says response (refused BadId)
IsTold configuration openings badges Author request (Ok (FleetOf view id)) stamp response = SaysOne (IsViewOf configuration badges view id request.at) response
IsTold configuration openings badges Nobody request (Ok call) stamp response = ⊥

-- The response to a call of the protocol. What the table of calls refuses is answered with that refusal, without a turn
-- and without a place in the log.
abbrev pub IsAnsweredAs : Configuration → Openings → Actor → Request → List (List ℕ) → Response (Full (List ℕ)) → Result Call Code → Type 0
IsAnsweredAs configuration openings actor request stamp response (Ok call) = IsAnsweredBy configuration openings actor request stamp response
IsAnsweredAs configuration openings actor request stamp response (Err code) = Says response (refused code)

-- the path says which of the two it is
abbrev pub IsToldBy : Configuration → Openings → Badges → Actor → Request → List (List ℕ) → Response (Full (List ℕ)) → Type 0
IsToldBy configuration openings badges actor request stamp response =
    MatchOption (app_of request) (IsAnsweredAs configuration openings actor request stamp response (call_of configuration request))
    (λ call. IsTold configuration openings badges actor request call stamp response)

-- the client is the one whose access token the request carries
abbrev pub IsCarriedOut : Configuration → Openings → Request → List (List ℕ) → Response (Full (List ℕ)) → Type 0
IsCarriedOut configuration openings request stamp response = IsCarriedOutBy configuration openings (actor_of configuration request.token) request stamp response

abbrev pub IsAnswered : Configuration → Openings → Badges → Request → List (List ℕ) → Response (Full (List ℕ)) → Type 0
IsAnswered configuration openings badges request stamp response = IsToldBy configuration openings badges (actor_of configuration request.token) request stamp response

-- The response has the first early refusal that applies. Where none does, the request that the head and the body make
-- at this moment is answered: a call of the protocol, or one next to it. The response waits until all these payloads
-- are synced.
abbrev pub Answers : Configuration → Openings → Badges → Parts → Arrived → Option ℕ → List (List ℕ) → Response (Full (List ℕ)) → Type 0
Answers configuration openings badges parts arrived at stamp response =
    MatchOption (early configuration parts arrived at)
    (IfSome at (λ moment. IsAnswered configuration openings badges (request_in parts (body_in arrived) moment) stamp response))
    (λ code. Says response (refused code))

-- No cache may store the response.
abbrev pub CityResponds : Configuration → Openings → Badges → Parts → Arrived → Option ℕ → Option (Response (Full (List ℕ))) → List (List ℕ) → Type 0
CityResponds configuration openings badges parts arrived at reply stamp = Waits (Answers configuration openings badges parts arrived at stamp) reply
