-- The response to many reports in one body, and the list of turns behind it.
use Rattle.std.specs.Prelude.{◌≡◌, ◌⊎◌, ℕ, Bool, false, List, [], ◌∷◌, ◌++◌}
use Rattle.http.specs.declared.response.Response.{Response}
use Rattle.http_body_util.specs.declared.full.Full.{Full}
use Rattle.mds_desk.specs.Desk.{DeskState}
use Rattle.mds_request.specs.Configuration.{Configuration}
use Rattle.mds_request.specs.Request.{Request}
use Rattle.mds_request.specs.Reply.{Reply}
use Rattle.mds_request.specs.declared.config.Actor.TheVariants.{Operator}
use Rattle.server_admission.specs.Actor.{index_of}
use Rattle.server_state.specs.Openings.{BeginsAt, Openings}
use Rattle.server_state.specs.Turn.{DeskRuns}
use Rattle.server_state.specs.TurnItem.{TurnItem, Ran}
use Rattle.server_state.specs.TurnList.{AreTurnsOf}
use Rattle.server_durable.specs.Logged.{ShowsTurns, exchanges_in}
use Rattle.server_durable.specs.Many.{AreRecorded, AreRefusedBehind, IsUnasked, SaysAll, exchanges, reports_of}
use Rattle.server_durable.specs.Owners.{client_in}

-- no turn is missing in the desk's list, whose last item is this run, behind the items that it had before
abbrev pub EndsInRun : List TurnItem → List Request → List Reply → Bool → List TurnItem → Type 0
EndsInRun before requests replies lost items = (lost ≡ false) × (items ≡ before ++ Ran requests replies ∷ [])

-- The turns that give these replies are the last ones of a list of all turns of the operator's desk, which leads to this
-- desk and, where there are any, begins as the desk was put behind its lock. The operator's payloads among these begin
-- with the records of all turns of the list, in their order and with no other of the operator's between.
pub record IsListedRun (configuration : Configuration) (openings : Openings) (place : ℕ) (requests : List Request) (replies : List Reply) (after : DeskState) (stamp : List (List ℕ)) : Type 0 where
  pub before : List TurnItem
  pub own : List TurnItem
  pub asked : exchanges_in own ≡ exchanges requests replies
  pub begins : (requests ≡ []) ⊎ BeginsAt openings place (before ++ own)
  pub turns : ∥ AreTurnsOf configuration place (before ++ own) after ∥₁
  pub shows : ∥ ShowsTurns configuration (client_in configuration) (index_of (Operator place)) (before ++ own) stamp ∥₁

-- A turn for each request, in their order and with nothing between, of the desk of the operator at this place gives the
-- replies. Each that was answered with success has its record among these payloads. The turns are the last ones of the
-- desk's list.
pub record IsRecordedRun (configuration : Configuration) (openings : Openings) (place : ℕ) (requests : List Request) (replies : List Reply) (stamp : List (List ℕ)) : Type 0 where
  pub run : DeskRuns configuration place requests replies
  pub recorded : AreRecorded configuration (exchanges requests replies) stamp
  pub listed : IsListedRun configuration openings place requests replies run.after stamp

-- A prefix of the requests was answered by a run; those after it, if there are any, aren't carried out.
pub record IsAnsweredInPart (configuration : Configuration) (openings : Openings) (place : ℕ) (requests : List Request) (replies : List Reply) (stamp : List (List ℕ)) : Type 0 where
  pub asked : List Request
  pub unasked : List Request
  pub cut : requests ≡ asked ++ unasked
  pub own : List Reply
  pub others : List Reply
  pub told : replies ≡ own ++ others
  pub run : IsRecordedRun configuration openings place asked own stamp
  pub rest : (unasked ≡ [] × others ≡ []) ⊎ AreRefusedBehind unasked others

-- the response has such replies
pub record AreCarriedOutBy (configuration : Configuration) (openings : Openings) (place : ℕ) (requests : List Request) (stamp : List (List ℕ)) (response : Response (Full (List ℕ))) : Type 0 where
  pub replies : List Reply
  pub answered : IsAnsweredInPart configuration openings place requests replies stamp
  pub says : SaysAll response replies

-- the response to the operator at this place for the reports of one body
abbrev pub ManyAreAnswered : Configuration → Openings → ℕ → Request → List (List ℕ) → Response (Full (List ℕ)) → Type 0
ManyAreAnswered configuration openings place request stamp response =
    IsUnasked request response ⊎ AreCarriedOutBy configuration openings place (reports_of request) stamp response
