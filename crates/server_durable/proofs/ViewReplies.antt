-- What a view of an operator's fleet tells, by the publications and the operator's own rows.
use Rattle.std.proofs.Common.{◌≡◌, ◌<◌, ◌⊎◌, ℕ, zero, suc, Bool, true, List, [], ◌∷◌, get_or, ltb, Option, Some, Ok, inl, inr, refl, sym, ap, subst, ◌∙◌, arith}
use Rattle.std.specs.Prelude.{if◌then◌else◌}
use Rattle.std.specs.FinMap.{values}
use Rattle.std.specs.List.{list_all, slice_get, slice_split}
use Rattle.std.specs.Str.{is_utf8}
use Rattle.std.proofs.lemmas.Bool.{and_parts, ltb-true}
use Rattle.std.proofs.lemmas.Str.{IsUtf8-from_ascii, is_utf8-from_IsUtf8}
use Rattle.mds_catalog.specs.Publication.{Publication}
use Rattle.mds_fleet.specs.Books.{Rows}
use Rattle.mds_request.specs.Call.{behind_slash, call_of, called_at, is_slash, path_of, segments_of}
use Rattle.mds_request.specs.Configuration.{Configuration, Operator, actor_of}
use Rattle.mds_request.specs.Reply.{Reply}
use Rattle.mds_request.specs.declared.call.Call.TheVariants as call
use Rattle.mds_request.specs.declared.call.OperatorCall.{OperatorCall}
use Rattle.mds_request.specs.declared.call.OperatorCall.TheVariants as operator
use Rattle.mds_request.specs.declared.config.Actor.{Actor}
use Rattle.mds_request.specs.declared.config.Actor.TheVariants.{Operator as OperatorAt}
use Rattle.mds_request.specs.declared.request.Verb.TheVariants.{Get}
use Rattle.mds_machine.specs.Answer.{settled, told}
use Rattle.mds_machine.specs.Bodies.{vehicles_json}
use Rattle.mds_machine.specs.Desks.{IsUnavailable, desk_does}
use Rattle.mds_machine.specs.Operator.{compliance_reply, operator_does}
use Rattle.mds_machine.proofs.Together.{desks_are_isolated}
use Rattle.mds_desk.specs.Desk.{DeskState, TakesTurn}
use Rattle.mds_desk.proofs.Resolved.{desk_calls}
use Rattle.server_routes.specs.declared.app.FleetView.{FleetView}
use Rattle.server_routes.specs.declared.app.FleetView.TheVariants.{Compliance, Vehicles}
use Rattle.server_state.specs.Turn.{DeskReplies, TakesToldTurn}
use Rattle.server_durable.specs.FleetViews.{IsOwnView, own_request, target_for, view_reply}
use Rattle.server_durable.specs.Laws.{AreSameOrUnavailable, ViewsAreByOwnRequests, ViewsAreByOwnRows}
use Rattle.server_durable.proofs.OwnTokens.{asked_by_operator}
use Rattle.server_durable.proofs.OwnViews.{leaves_rows}
use Rattle.server_durable.proofs.Runs.{rows_told, same_told}

-- ---- the call of a view

-- bytes of ASCII are text
low_bytes : (bs : List ℕ) → list_all (λ b. ltb b 128) bs ≡ true → (i : ℕ) → get_or bs i 0 < 128
low_bytes [] low i = omega arith
low_bytes (b ∷ bs) low zero = ltb-true b 128 (and_parts (ltb b 128) (list_all (λ b. ltb b 128) bs) low).0
low_bytes (b ∷ bs) low (suc i) = low_bytes bs (and_parts (ltb b 128) (list_all (λ b. ltb b 128) bs) low).1 i

pub ascii_text : (bs : List ℕ) → list_all (λ b. ltb b 128) bs ≡ true → is_utf8 bs ≡ true
ascii_text bs low = is_utf8-from_IsUtf8 bs (IsUtf8-from_ascii bs (low_bytes bs low))

pub path_text : (view : FleetView) → is_utf8 (path_of (target_for view)) ≡ true
path_text Compliance = ascii_text (path_of (target_for Compliance)) refl
path_text Vehicles = ascii_text (path_of (target_for Vehicles)) refl

abbrev segments : FleetView → Bool → List (List ℕ)
segments view is_text = if is_text then behind_slash (slice_split is_slash (path_of (target_for view))) else []

abbrev call_for : FleetView → OperatorCall
call_for Compliance = operator.Compliance
call_for Vehicles = operator.Vehicles

led : (place : ℕ) (view : FleetView) → called_at (OperatorAt place) Get (segments view true) ≡ Ok (call.Operator place (call_for view))
led place Compliance = refl
led place Vehicles = refl

own_call : (c : Configuration) (place : ℕ) (o : Operator) (view : FleetView) (at : ℕ) → actor_of c o.token ≡ OperatorAt place
    → call_of c (own_request o view at) ≡ Ok (call.Operator place (call_for view))
own_call c place o view at asks =
    ap (λ (actor : Actor). called_at actor Get (segments_of (target_for view))) asks
    ∙ ap (λ (is_text : Bool). called_at (OperatorAt place) Get (segments view is_text)) (path_text view)
    ∙ led place view

-- ---- what it tells

settled_is : (c : Configuration) (o : Operator) (front : List Publication) (rows : Rows) (at : ℕ) (view : FleetView)
    → (settled rows (operator_does c.zone o front rows (call_for view) (own_request o view at))).0 ≡ view_reply c o view front rows at
settled_is c o front rows at Compliance = refl
settled_is c o front rows at Vehicles = refl

does_tell : (c : Configuration) (place : ℕ) (o : Operator) (front : List Publication) (rows : Rows) (at : ℕ) (view : FleetView) → actor_of c o.token ≡ OperatorAt place
    → (desk_does c place o front rows (own_request o view at)).0 ≡ view_reply c o view front rows at
does_tell c place o front rows at view asks =
    ap (λ (does : Reply × Rows). does.0) (desk_calls c (own_request o view at) place (call_for view) (own_call c place o view at asks) o front rows)
    ∙ settled_is c o front rows at view

turn_tells : (d next : DeskState) (o : Operator) (view : FleetView) (at : ℕ) (reply : Reply) → slice_get d.configuration.operators d.place ≡ Some o
    → TakesTurn d (own_request o view at) reply next → actor_of d.configuration o.token ≡ OperatorAt d.place
    → (reply ≡ view_reply d.configuration o view next.known d.rows at) ⊎ IsUnavailable reply
turn_tells d next o view at reply placed turn asks =
    elim ((turn.turn o placed).answer) [
      | inl does ↦ inl (does.0 ∙ does_tell d.configuration d.place o next.known d.rows at view asks)
      | inr unavailable ↦ inr unavailable.0
    ]

-- the reply of a turn on the operator's own request for a view is such a view
pub is_own_view : (c : Configuration) (place : ℕ) (o : Operator) (view : FleetView) (at : ℕ) (reply : Reply) → slice_get c.operators place ≡ Some o
    → DeskReplies c place (own_request o view at) reply → IsOwnView c place view at reply
is_own_view c place o view at reply is turn =
    let d = turn.before in
    let next = turn.after in
    let placed : slice_get d.configuration.operators d.place ≡ Some o =
    ap (λ (x : Configuration). slice_get x.operators d.place) turn.is_its.configured ∙ ap (slice_get c.operators) turn.is_its.placed ∙ is in
    record {
      operator = o;
      is_its = is;
      turn = turn;
      rows_stay = leaves_rows d next o view at reply placed turn.turn;
      tells = λ text read.
          let asks : actor_of d.configuration o.token ≡ OperatorAt d.place =
          ap (λ (x : Configuration). actor_of x o.token) turn.is_its.configured ∙ asked_by_operator text c place o view at read is ∙ ap OperatorAt (sym turn.is_its.placed) in
          subst (λ (x : Configuration). (reply ≡ view_reply x o view next.known d.rows at) ⊎ IsUnavailable reply) turn.is_its.configured
          (turn_tells d next o view at reply placed turn.turn asks);
    }

-- a turn on it after a note leaves the rows
pub rows_left : (d next : DeskState) (note : Option (List Publication)) (o : Operator) (view : FleetView) (at : ℕ) (reply : Reply)
    → slice_get d.configuration.operators d.place ≡ Some o → TakesToldTurn d note (own_request o view at) reply next → next.rows ≡ d.rows
rows_left d next note o view at reply placed takes =
    let same = same_told d note takes.told takes.learns in
    let still : slice_get takes.told.configuration.operators takes.told.place ≡ Some o =
    ap (λ (x : Configuration). slice_get x.operators takes.told.place) same.configuration ∙ ap (slice_get d.configuration.operators) same.place ∙ placed in
    leaves_rows takes.told next o view at reply still takes.turn ∙ rows_told d note takes.told takes.learns

-- ---- laws

same_reply : (c other : Configuration) (view : FleetView) (o p : Operator) (front known : List Publication) (rows held : Rows) (at : ℕ) → c.zone ≡ other.zone → o ≡ p
    → rows ≡ held → front ≡ known → view_reply c o view front rows at ≡ view_reply other p view known held at
same_reply c other Compliance o p front known rows held at zone own there shown =
    ap (λ z. compliance_reply z o front rows at) zone ∙ ap (λ (x : Operator). compliance_reply other.zone x front rows at) own
    ∙ ap (λ (x : Rows). compliance_reply other.zone p front x at) there ∙ ap (λ (x : List Publication). compliance_reply other.zone p x held at) shown
same_reply c other Vehicles o p front known rows held at zone own there shown = ap (λ (x : Rows). told (vehicles_json (values x))) there

same_or_not : (one other here there : Reply) → (one ≡ here) ⊎ IsUnavailable one → (other ≡ there) ⊎ IsUnavailable other → here ≡ there → AreSameOrUnavailable one other
same_or_not one other here there (inl is) (inl other_is) same = inl (is ∙ same ∙ sym other_is)
same_or_not one other here there (inl is) (inr unavailable) same = inr (inr unavailable)
same_or_not one other here there (inr unavailable) told same = inr (inl unavailable)

pub by_own_rows : ViewsAreByOwnRows
by_own_rows text other_text c other_c place other_place view at reply other_reply one other read other_read zone own rows known =
    same_or_not reply other_reply _ _ (one.tells text read) (other.tells other_text other_read)
    (same_reply c other_c view one.operator other.operator one.turn.after.known other.turn.after.known one.turn.before.rows other.turn.before.rows at zone own rows known)

one_operator : (o p : Operator) → Some o ≡ Some p → o ≡ p
one_operator o p is = cc

pub by_own_requests : ViewsAreByOwnRequests
by_own_requests text c place o view at reply other_reply turns others one other read is its other_its same known =
    by_own_rows text text c c place place view at reply other_reply one other read read refl (one_operator one.operator other.operator (sym one.is_its ∙ other.is_its))
    (desks_are_isolated c place o turns others one.turn.before.rows other.turn.before.rows its other_its same).1 known
