-- Views of an operator's fleet: what its own desk answers it. An operator sees its own, and the author each operator's,
-- as far as the configuration's oversight goes.
use Rattle.std.specs.Prelude.{◌≡◌, ◌⊎◌, ◌<◌, ℕ, suc, List, [], ◌∷◌, Bool, true, false, bytes_eq, codes, length, Option, Some, None, Ok, position, slice_get}
use Rattle.std.specs.FinMap.{values}
use Rattle.mds_catalog.specs.Publication.{Publication}
use Rattle.mds_fleet.specs.Books.{Rows}
use Rattle.mds_machine.specs.Answer.{told}
use Rattle.mds_machine.specs.Bodies.{vehicles_json}
use Rattle.mds_machine.specs.Desks.{IsUnavailable}
use Rattle.mds_machine.specs.Operator.{compliance_reply}
use Rattle.mds_request.specs.Configuration.{Configuration, Operator, read_configuration}
use Rattle.mds_request.specs.Reply.{Reply, refused, success}
use Rattle.mds_request.specs.Request.{Request}
use Rattle.mds_request.specs.declared.code.Code.TheVariants.{NotFound, Role}
use Rattle.mds_request.specs.declared.request.Verb.TheVariants.{Get}
use Rattle.server_app.specs.ComplianceList.{compliance_list}
use Rattle.server_app.specs.OperatorNames.{Badges}
use Rattle.server_app.specs.declared.oversight.Oversight.{Oversight}
use Rattle.server_app.specs.declared.oversight.Oversight.TheVariants as oversight
use Rattle.server_routes.specs.declared.app.FleetView.{FleetView}
use Rattle.server_routes.specs.declared.app.FleetView.TheVariants.{Compliance, Vehicles}
use Rattle.server_routes.specs.declared.state.FleetQuestion.{FleetQuestion}
use Rattle.server_routes.specs.declared.state.FleetQuestion.TheVariants.{Own, Of, EachCompliance}
use Rattle.server_state.specs.Turn.{DeskReplies}

-- the call of the protocol that has the view
abbrev pub target_for : FleetView → List ℕ
target_for Compliance = codes "/compliance"
target_for Vehicles = codes "/fleet/vehicles"

-- the operator's own request for a view
abbrev pub own_request : Operator → FleetView → ℕ → Request
own_request operator view at = record { at = at; token = operator.token; verb = Get; target = target_for view; body = [] }

-- The reply with a view of an operator's fleet at a moment: by the zone, the operator, the publications and its own rows,
-- and by nothing else.
abbrev pub view_reply : Configuration → Operator → FleetView → List Publication → Rows → ℕ → Reply
view_reply configuration operator Compliance publications rows at = compliance_reply configuration.zone operator publications rows at
view_reply configuration operator Vehicles publications rows at = told (vehicles_json (values rows))

-- The reply is that of a turn of the desk of the operator at this place, on its own request for the view. The turn leaves
-- the operator's rows as they were. In a configuration that was read, the reply is the one with the view, by these rows
-- and the publications that the desk then knows; or it is 503.
pub record IsOwnView (configuration : Configuration) (place : ℕ) (view : FleetView) (at : ℕ) (reply : Reply) : Type 0 where
  pub operator : Operator
  pub is_its : slice_get configuration.operators place ≡ Some operator
  pub turn : DeskReplies configuration place (own_request operator view at) reply
  pub rows_stay : turn.after.rows ≡ turn.before.rows
  pub tells : (text : List ℕ) → read_configuration text ≡ Ok configuration
      → (reply ≡ view_reply configuration operator view turn.after.known turn.before.rows at) ⊎ IsUnavailable reply

-- whether the author has such views
abbrev pub covers : Oversight → FleetView → Bool
covers oversight.Nothing view = false
covers oversight.Verdicts Compliance = true
covers oversight.Verdicts Vehicles = false
covers oversight.Vehicles view = true

-- such a reply where the author has the view, and else the refusal of the role
abbrev pub IfCovered : Bool → (Reply → Type 0) → Reply → Type 0
IfCovered true Kind reply = Kind reply
IfCovered false Kind reply = reply ≡ refused Role

-- the place of the operator with this identifier
abbrev pub place_of : Configuration → List ℕ → Option ℕ
place_of configuration id = position (λ operator. bytes_eq id operator.id) configuration.operators

-- the view of the operator at this place, if there is one
abbrev pub IsViewAt : Configuration → FleetView → ℕ → Option ℕ → Reply → Type 0
IsViewAt configuration view at None reply = reply ≡ refused NotFound
IsViewAt configuration view at (Some place) reply = IsOwnView configuration place view at reply

-- the author's view of the operator with this identifier
abbrev pub IsViewOf : Configuration → Badges → FleetView → List ℕ → ℕ → Reply → Type 0
IsViewOf configuration badges view id at =
    IfCovered (covers badges.oversight view) (IsViewAt configuration view at (place_of configuration id))

-- these are the bodies of the successes of the operators from this place on, each on its own request for its compliance
abbrev pub AreOwnBodies : Configuration → ℕ → ℕ → List (List ℕ) → Type 0
AreOwnBodies configuration at place [] = Unit {0}
AreOwnBodies configuration at place (body ∷ bodies) =
    IsOwnView configuration place Compliance at (success body) × AreOwnBodies configuration at (suc place) bodies

-- Each operator's own answer, in the configuration's order, with its identifier and name.
pub record IsOfEach (configuration : Configuration) (badges : Badges) (at : ℕ) (reply : Reply) : Type 0 where
  pub bodies : List (List ℕ)
  pub each : AreOwnBodies configuration at 0 bodies
  pub all : length bodies ≡ length configuration.operators
  pub is : reply ≡ success (compliance_list at bodies badges.operators)

-- the refusal that one operator's desk gave in place of its answer
abbrev pub IsRefusedByOne : Configuration → ℕ → Reply → Type 0
IsRefusedByOne configuration at reply =
    (place : ℕ) × IsOwnView configuration place Compliance at reply × (reply.status ≡ 200 → ⊥)

-- The author's view of each operator's compliance. Where one desk refuses its operator, for want of memory or of a
-- snapshot, that is the reply.
abbrev pub IsEachCompliance : Configuration → Badges → ℕ → Reply → Type 0
IsEachCompliance configuration badges at =
    IfCovered (covers badges.oversight Compliance)
    (λ reply. IsOfEach configuration badges at reply ⊎ IsRefusedByOne configuration at reply)

-- the reply to a question about fleets
abbrev pub IsFleetReply : Configuration → Badges → ℕ → FleetQuestion → Reply → Type 0
IsFleetReply configuration badges at (Own place view) = IsOwnView configuration place view at
IsFleetReply configuration badges at (Of view id) = IsViewOf configuration badges view id at
IsFleetReply configuration badges at EachCompliance = IsEachCompliance configuration badges at

-- an operator that asks has its place among so many
abbrev pub IsAskedWithin : ℕ → FleetQuestion → Type 0
IsAskedWithin n (Own place view) = place < n
IsAskedWithin n question = Unit {0}
