-- A view of an operator's fleet changes nothing.
use Rattle.std.proofs.Common.{◌≡◌, ℕ, Bool, true, false, List, [], inl, inr, refl, ◌∙◌}
use Rattle.std.specs.Prelude.{if◌then◌else◌}
use Rattle.mds_catalog.specs.Publication.{Publication}
use Rattle.mds_fleet.specs.Books.{Rows}
use Rattle.std.specs.List.{slice_split}
use Rattle.std.specs.Str.{is_utf8}
use Rattle.mds_request.specs.Call.{behind_slash, called_at, call_of, is_slash, path_of}
use Rattle.mds_request.specs.Configuration.{Configuration, Operator, actor_of}
use Rattle.mds_request.specs.Reply.{Reply, refused}
use Rattle.mds_request.specs.declared.config.Actor.{Actor}
use Rattle.mds_request.specs.declared.config.Actor.TheVariants.{Author, Operator as OperatorAt, Nobody}
use Rattle.mds_request.specs.declared.request.Verb.TheVariants.{Get}
use Rattle.mds_machine.specs.Answer.{settled, ◌>>=◌}
use Rattle.mds_machine.specs.Desks.{desk_does, refusal_of}
use Rattle.mds_machine.specs.Meaning.{own_call, own_step}
use Rattle.mds_machine.specs.Operator.{operator_does}
use Rattle.mds_machine.specs.Views.{is_of}
use Rattle.server_routes.specs.declared.app.FleetView.{FleetView}
use Rattle.server_routes.specs.declared.app.FleetView.TheVariants.{Compliance, Vehicles}
use Rattle.server_durable.specs.FleetViews.{own_request, target_for}
use Rattle.server_durable.specs.Laws.{ViewsLeaveRows}

-- the segments of its target, where that is text
abbrev segments : FleetView → Bool → List (List ℕ)
segments view is_text = if is_text then behind_slash (slice_split is_slash (path_of (target_for view))) else []

-- the operator's own step, whoever the request's client is
step_left : (configuration : Configuration) (operator asker : Operator) (front : List Publication) (rows : Rows) (at : ℕ) (is_text : Bool) (view : FleetView) (actor : Actor)
    → (settled rows (called_at actor Get (segments view is_text) >>= own_call >>= λ call.
    operator_does configuration.zone operator front rows call (own_request asker view at))).1 ≡ rows
step_left configuration operator asker front rows at true Compliance Nobody = refl
step_left configuration operator asker front rows at true Compliance Author = refl
step_left configuration operator asker front rows at true Compliance (OperatorAt place) = refl
step_left configuration operator asker front rows at true Vehicles Nobody = refl
step_left configuration operator asker front rows at true Vehicles Author = refl
step_left configuration operator asker front rows at true Vehicles (OperatorAt place) = refl
step_left configuration operator asker front rows at false Compliance Nobody = refl
step_left configuration operator asker front rows at false Compliance Author = refl
step_left configuration operator asker front rows at false Compliance (OperatorAt place) = refl
step_left configuration operator asker front rows at false Vehicles Nobody = refl
step_left configuration operator asker front rows at false Vehicles Author = refl
step_left configuration operator asker front rows at false Vehicles (OperatorAt place) = refl

own_left : (configuration : Configuration) (operator asker : Operator) (front : List Publication) (rows : Rows) (at : ℕ) (view : FleetView)
    → (own_step configuration operator front rows (own_request asker view at)).1 ≡ rows
own_left configuration operator asker front rows at view =
    step_left configuration operator asker front rows at (is_utf8 (path_of (target_for view))) view (actor_of configuration asker.token)

either_left : (b : Bool) (one other : Reply × Rows) (rows : Rows) → one.1 ≡ rows → other.1 ≡ rows → (if b then one else other).1 ≡ rows
either_left true one other rows here there = here
either_left false one other rows here there = there

does_left : (configuration : Configuration) (place : ℕ) (operator asker : Operator) (front : List Publication) (rows : Rows) (at : ℕ) (view : FleetView)
    → (desk_does configuration place operator front rows (own_request asker view at)).1 ≡ rows
does_left configuration place operator asker front rows at view =
    let request = own_request asker view at in
    either_left (is_of configuration place request) (own_step configuration operator front rows request)
    (refused (refusal_of (call_of configuration request)), rows) rows (own_left configuration operator asker front rows at view) refl

pub leaves_rows : ViewsLeaveRows
leaves_rows d next operator view at reply placed turn =
    elim ((turn.turn operator placed).answer) [
      | inl does ↦ does.1 ∙ does_left d.configuration d.place operator operator next.known d.rows at view
      | inr unavailable ↦ unavailable.1
    ]
