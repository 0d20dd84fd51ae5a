-- The laws of a city's responses.
use Rattle.std.specs.Prelude.{◌≡◌, ◌⊎◌, ℕ, true, false, List, [], ◌++◌, filter, Option, None, Some, IsSome, Ok, slice_get}
use Rattle.std.specs.List.{AllByRecursion, filter_map}
use Rattle.http.specs.declared.request.Parts.{Parts}
use Rattle.http.specs.declared.response.Response.{Response}
use Rattle.http_body_util.specs.declared.full.Full.{Full}
use Rattle.journal_commit.specs.Durable.{AreDurable}
use Rattle.server_state.specs.HttpRequest.{target_of}
use Rattle.server_state.specs.Openings.{Openings}
use Rattle.server_state.specs.Respond.{Responds, TurnGives}
use Rattle.server_state.specs.Response.{Says}
use Rattle.server_state.specs.Turn.{DeskRuns}
use Rattle.server_admission.specs.declared.arrival.Arrived.{Arrived}
use Rattle.mds_request.specs.Call.{path_of}
use Rattle.mds_desk.specs.Desk.{DeskState, TakesTurn}
use Rattle.mds_machine.specs.Desks.{IsUnavailable}
use Rattle.mds_machine.specs.Fronts.{Turn, continued, served_in}
use Rattle.mds_machine.specs.OneHistory.{AreItsTurns}
use Rattle.mds_request.specs.Configuration.{Configuration, Operator, actor_of, read_configuration}
use Rattle.mds_request.specs.declared.config.Actor.TheVariants.{Operator as OperatorAt}
use Rattle.mds_request.specs.Request.{Request, verb_of}
use Rattle.mds_request.specs.Reply.{Reply}
use Rattle.journal_laws.specs.Persisted.{is_kept}
use Rattle.server_app.specs.OperatorNames.{Badges}
use Rattle.server_app.specs.Withdrawals.{withdrawal_of, withdrawals}
use Rattle.mds_catalog.specs.Publication.{Publication, is_meant_for, published_policies}
use Rattle.server_routes.specs.App.{app_at, app_of}
use Rattle.server_durable.specs.DurableResponse.{Answers, IsCarriedOut}
use Rattle.server_durable.specs.FleetViews.{IsOwnView, own_request}
use Rattle.server_durable.specs.Many.{AreRefusedBehind, SaysAll, exchanges}
use Rattle.server_durable.specs.ManyAnswers.{AreCarriedOutBy}
use Rattle.server_durable.specs.Records.{HasRecord}
use Rattle.server_durable.specs.People.{operator_told}
use Rattle.server_durable.specs.Refusals.{SaysUnheld}
use Rattle.server_routes.specs.declared.app.FleetView.{FleetView}
use Rattle.server_routes.specs.declared.app.Question.{Question}

module _ {L : Type 0} (may_be : L → List (List ℕ) → Type 0) (is_synced : L → Type 0) where
  -- a synced log may be of a list that has the request's record
  abbrev pub HasDurableRecord : Configuration → Request → Type 0
  HasDurableRecord configuration request =
      (log : L) × (texts : List (List ℕ)) × is_synced log × may_be log texts × HasRecord configuration request texts

  -- A response that is sent has the reply of a turn of the client. If a journal persists that exchange, a synced log
  -- has its record.
  abbrev pub RecordedAreKept : Type 0
  RecordedAreKept =
      (configuration : Configuration) (openings : Openings) (request : Request) (response : Response (Full (List ℕ))) (stamp : List (List ℕ))
      → IsCarriedOut configuration openings request stamp response → AreDurable may_be is_synced stamp
      → (reply : Reply) × TurnGives configuration (actor_of configuration request.token) request reply × Says response reply
      × (is_kept configuration (record { request = request; reply = reply }) ≡ true → HasDurableRecord configuration request)

  -- A response to many reports that were taken: it has the replies of a run of turns of the operator's desk to a prefix
  -- of them. Of each of these that a journal persists a synced log has the record. Those after them, if there are any,
  -- were refused and weren't carried out.
  abbrev pub ManyAreKept : Type 0
  ManyAreKept =
      (configuration : Configuration) (openings : Openings) (place : ℕ) (requests : List Request) (response : Response (Full (List ℕ))) (stamp : List (List ℕ))
      → AreCarriedOutBy configuration openings place requests stamp response → AreDurable may_be is_synced stamp
      → (asked : List Request) × (unasked : List Request) × (own : List Reply) × (others : List Reply) × (requests ≡ asked ++ unasked)
      × DeskRuns configuration place asked own × SaysAll response (own ++ others)
      × ((unasked ≡ [] × others ≡ []) ⊎ AreRefusedBehind unasked others)
      × AllByRecursion (λ e. is_kept configuration e ≡ true → HasDurableRecord configuration e.request) (exchanges asked own)

-- Where what a request needs of the log is reserved, a city responds to a call of the protocol as a hall does.
abbrev pub RespondsAsAHall : Type 0
RespondsAsAHall =
    (configuration : Configuration) (openings : Openings) (badges : Badges) (parts : Parts) (arrived : Arrived) (at : Option ℕ) (stamp : List (List ℕ))
    (response : Response (Full (List ℕ)))
    → app_at (verb_of parts.method) (path_of (target_of parts.uri)) ≡ None
    → Answers configuration openings badges parts arrived at stamp response
    → SaysUnheld response ⊎ Responds configuration parts arrived at response

-- No journal persists a call outside the protocol: of many reports it persists each by itself, as a request of the
-- protocol.
abbrev pub AppCallsAreNotKept : Type 0
AppCallsAreNotKept =
    (configuration : Configuration) (request : Request) (reply : Reply)
    → IsSome (app_of request) → is_kept configuration (record { request = request; reply = reply }) ≡ false

-- What an operator is answered depends on the publications and its own place alone: whoever the other operators are and
-- whatever their names, and whatever drafts there are, it is answered the same.
abbrev pub OperatorsAreToldTheirOwn : Type 0
OperatorsAreToldTheirOwn =
    (one other : Configuration) (named renamed : Badges) (place : ℕ) (publications : List Publication) (question : Question)
    → slice_get one.operators place ≡ slice_get other.operators place
    → slice_get named.operators place ≡ slice_get renamed.operators place → named.oversight ≡ renamed.oversight → named.zone ≡ renamed.zone
    → operator_told one named place publications question ≡ operator_told other renamed place publications question

-- An operator's withdrawals are of policies that its own answers show: each of those that are meant for it and are
-- withdrawn.
abbrev pub WithdrawalsAreOfOwnPolicies : Type 0
WithdrawalsAreOfOwnPolicies =
    (publications : List Publication) (operator : List ℕ)
    → withdrawals publications (Some operator)
    ≡ filter_map (withdrawal_of publications) (filter (λ p. is_meant_for operator p.document) (published_policies publications))

-- The request by which a view of an operator's fleet is asked for is that operator's own: its access token is the
-- operator's.
abbrev pub ViewsAreAskedByTheOperator : Type 0
ViewsAreAskedByTheOperator =
    (text : List ℕ) (configuration : Configuration) (place : ℕ) (operator : Operator) (view : FleetView) (at : ℕ)
    → read_configuration text ≡ Ok configuration → slice_get configuration.operators place ≡ Some operator
    → actor_of configuration (own_request operator view at).token ≡ OperatorAt place

-- A turn on such a request leaves the operator's rows as they were: who asks for a view changes nothing for the
-- operator.
abbrev pub ViewsLeaveRows : Type 0
ViewsLeaveRows =
    (d next : DeskState) (operator : Operator) (view : FleetView) (at : ℕ) (reply : Reply)
    → slice_get d.configuration.operators d.place ≡ Some operator → TakesTurn d (own_request operator view at) reply next
    → next.rows ≡ d.rows

-- both are the same, byte for byte, or one of them is 503
abbrev pub AreSameOrUnavailable : Reply → Reply → Type 0
AreSameOrUnavailable reply other = (reply ≡ other) ⊎ (IsUnavailable reply ⊎ IsUnavailable other)

-- What is told of one operator depends on the publications and on its own rows alone: two views of it at one moment, at
-- servers that have this operator and the zone alike, over equal rows and at equal publications, are the same, whoever
-- the other operators are.
abbrev pub ViewsAreByOwnRows : Type 0
ViewsAreByOwnRows =
    (text other_text : List ℕ) (configuration other_configuration : Configuration) (place other_place : ℕ) (view : FleetView) (at : ℕ) (reply other_reply : Reply)
    (one : IsOwnView configuration place view at reply) (other : IsOwnView other_configuration other_place view at other_reply)
    → read_configuration text ≡ Ok configuration → read_configuration other_text ≡ Ok other_configuration
    → configuration.zone ≡ other_configuration.zone → one.operator ≡ other.operator
    → one.turn.before.rows ≡ other.turn.before.rows → one.turn.after.known ≡ other.turn.after.known
    → AreSameOrUnavailable reply other_reply

-- So it depends on the publications and on that operator's own requests alone: where its requests that were served
-- before, each with the publications at which its desk answered, continue the empty view to the same view at two servers
-- of one configuration, two views of it at one moment and at equal publications are the same, whatever the others asked.
abbrev pub ViewsAreByOwnRequests : Type 0
ViewsAreByOwnRequests =
    (text : List ℕ) (configuration : Configuration) (place : ℕ) (operator : Operator) (view : FleetView) (at : ℕ) (reply other_reply : Reply)
    (turns others : List Turn) (one : IsOwnView configuration place view at reply) (other : IsOwnView configuration place view at other_reply)
    → read_configuration text ≡ Ok configuration → slice_get configuration.operators place ≡ Some operator
    → AreItsTurns configuration place operator turns one.turn.before.rows → AreItsTurns configuration place operator others other.turn.before.rows
    → continued [] (served_in configuration place turns) ≡ continued [] (served_in configuration place others)
    → one.turn.after.known ≡ other.turn.after.known
    → AreSameOrUnavailable reply other_reply
