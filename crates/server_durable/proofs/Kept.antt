-- What a journal persists of an operator's reports: those that were answered with success.
use Rattle.std.proofs.Common.{◌≡◌, ◌==◌, ◌<◌, ℕ, Bool, true, false, cond, not, nat_lt, List, [], ◌∷◌, length, Some, Result, Ok, Err, inl, inr, refl, sym, ap, subst, ◌∙◌}
use Rattle.std.specs.Prelude.{◌&&◌, codes, if◌then◌else◌}
use Rattle.std.specs.List.{list_all, slice_get, slice_split}
use Rattle.std.specs.Str.{is_utf8}
use Rattle.mds_catalog.specs.Publication.{Publication}
use Rattle.mds_fleet.specs.Books.{Rows}
use Rattle.journal_laws.specs.Persisted.{is_kept, kept, may_change}
use Rattle.mds_desk.proofs.Resolved.{desk_refuses, is_its}
use Rattle.mds_machine.specs.Desks.{AreTurns, IsTurn, IsUnavailable}
use Rattle.mds_machine.specs.Fronts.{Turn, replies_in, requests_in}
use Rattle.mds_machine.specs.Step.{Exchange}
use Rattle.mds_request.specs.Call.{behind_slash, call_of, called_at, is_slash, path_of, segments_of}
use Rattle.mds_request.specs.Configuration.{Configuration, Operator, actor_of}
use Rattle.mds_request.specs.Request.{Request}
use Rattle.mds_request.specs.Reply.{Reply}
use Rattle.mds_request.specs.declared.call.Call.{Call}
use Rattle.mds_request.specs.declared.call.Call.TheVariants as call
use Rattle.mds_request.specs.declared.code.Code.{Code}
use Rattle.mds_request.specs.declared.call.OperatorCall.TheVariants as operator
use Rattle.mds_request.specs.declared.call.TheConstants.{MOST_BODY}
use Rattle.mds_request.specs.declared.code.Code.TheVariants.{TooLarge}
use Rattle.mds_request.specs.declared.config.Actor.{Actor}
use Rattle.mds_request.specs.declared.config.Actor.TheVariants.{Author, Nobody, Operator as OperatorAt}
use Rattle.mds_request.specs.declared.request.Verb.{Verb}
use Rattle.mds_request.specs.declared.request.Verb.TheVariants.{Get, Post}
use Rattle.server_routes.specs.declared.app.FleetView.{FleetView}
use Rattle.server_routes.specs.declared.app.FleetView.TheVariants.{Compliance, Vehicles}
use Rattle.server_state.specs.Turn.{DeskRuns}
use Rattle.server_durable.specs.FleetViews.{own_request, target_for}
use Rattle.server_durable.specs.Many.{AreAskedBy, IsReportBy, accepted, exchanges}
use Rattle.server_durable.proofs.Reports.{found_at}
use Rattle.server_durable.proofs.Turns.{first_true, second_true}
use Rattle.server_durable.proofs.ViewReplies.{ascii_text, path_text}

-- ---- a report

abbrev reports_at : List ℕ
reports_at = codes "/fleet/events"

reports_text : is_utf8 (path_of reports_at) ≡ true
reports_text = ascii_text (path_of reports_at) refl

abbrev report_segments : Bool → List (List ℕ)
report_segments is_text = if is_text then behind_slash (slice_split is_slash (path_of reports_at)) else []

module _ (configuration : Configuration) (place : ℕ) where
  -- a report whose body isn't too large is the call that reports a vehicle
  report_calls : (request : Request) → IsReportBy configuration place request → nat_lt MOST_BODY (length request.body) ≡ false
      → call_of configuration request ≡ Ok (call.Operator place operator.Report)
  report_calls request is fits =
      ap (λ (b : Bool). cond b (Err TooLarge) (called_at (actor_of configuration request.token) request.verb (segments_of request.target))) fits
      ∙ ap (λ (who : Actor). called_at who request.verb (segments_of request.target)) is.asks
      ∙ ap (λ (verb : Verb). called_at (OperatorAt place) verb (segments_of request.target)) is.verb
      ∙ ap (λ (target : List ℕ). called_at (OperatorAt place) Post (segments_of target)) is.target
      ∙ ap (λ (is_text : Bool). called_at (OperatorAt place) Post (report_segments is_text)) reports_text

  too_large : (request : Request) → nat_lt MOST_BODY (length request.body) ≡ true → call_of configuration request ≡ Err TooLarge
  too_large request large =
      ap (λ (b : Bool). cond b (Err TooLarge) (called_at (actor_of configuration request.token) request.verb (segments_of request.target))) large

  -- a refusal isn't a success
  unavailable : (reply : Reply) → IsUnavailable reply → (reply.status == 200) ≡ false
  unavailable reply is = elim is [ inl none ↦ ap (λ (r : Reply). r.status == 200) none | inr none ↦ ap (λ (r : Reply). r.status == 200) none ]

  refuses : (o : Operator) (known : List Publication) (rows after : Rows) (turn : Turn) → IsReportBy configuration place turn.request
      → nat_lt MOST_BODY (length turn.request.body) ≡ true → IsTurn configuration place o known rows turn after → (turn.reply.status == 200) ≡ false
  refuses o known rows after turn is large takes =
      elim takes.answer [
        | inl does ↦
            ap (λ (r : Reply). r.status == 200)
            (does.0 ∙ ap (λ (d : Reply × Rows). d.0)
            (desk_refuses configuration turn.request place TooLarge (too_large turn.request large) (is_its configuration turn.request place is.asks) o turn.front rows))
        | inr none ↦ unavailable turn.reply none.0
      ]

  -- a journal persists a report where it was answered with success
  by_size : (b : Bool) (o : Operator) (known : List Publication) (rows after : Rows) (turn : Turn) → nat_lt MOST_BODY (length turn.request.body) ≡ b
      → IsReportBy configuration place turn.request → IsTurn configuration place o known rows turn after
      → is_kept configuration (record { request = turn.request; reply = turn.reply }) ≡ (turn.reply.status == 200)
  by_size true o known rows after turn large is takes =
      ap (λ (r : Result Call Code). may_change r && (turn.reply.status == 200)) (too_large turn.request large) ∙ sym (refuses o known rows after turn is large takes)
  by_size false o known rows after turn fits is takes =
      ap (λ (r : Result Call Code). may_change r && (turn.reply.status == 200)) (report_calls turn.request is fits)

  -- so of the reports of turns it persists those that were accepted
  turns_kept : (o : Operator) (known : List Publication) (rows after : Rows) (turns : List Turn) → AreAskedBy configuration place (requests_in turns)
      → AreTurns configuration place o known rows turns after
      → kept configuration (exchanges (requests_in turns) (replies_in turns)) ≡ accepted (exchanges (requests_in turns) (replies_in turns))
  turns_kept o known rows after [] asked are = refl
  turns_kept o known rows after (turn ∷ turns) asked are =
      let e : Exchange = record { request = turn.request; reply = turn.reply } in
      let more = exchanges (requests_in turns) (replies_in turns) in
      ap (λ (b : Bool). cond b (e ∷ kept configuration more) (kept configuration more))
      (by_size (nat_lt MOST_BODY (length turn.request.body)) o known rows are.0 turn refl asked.0 are.1)
      ∙ ap (λ (history : List Exchange). cond (turn.reply.status == 200) (e ∷ history) history) (turns_kept o turn.front are.0 after turns asked.1 are.2)

  -- and of those of a run
  pub run_kept : (requests : List Request) (replies : List Reply) → place < length configuration.operators → AreAskedBy configuration place requests
      → DeskRuns configuration place requests replies → kept configuration (exchanges requests replies) ≡ accepted (exchanges requests replies)
  run_kept requests replies within asked runs =
      let d = runs.before in
      let found = found_at configuration.operators place within in
      let there : slice_get d.configuration.operators d.place ≡ Some found.0 =
      ap (λ (c : Configuration). slice_get c.operators d.place) runs.is_its.configured ∙ ap (slice_get configuration.operators) runs.is_its.placed ∙ found.1 in
      let run = runs.run.run found.0 there in
      let are : AreTurns configuration place found.0 d.known d.rows run.turns runs.after.rows =
      subst (λ (p : ℕ). AreTurns configuration p found.0 d.known d.rows run.turns runs.after.rows) runs.is_its.placed
      (subst (λ (c : Configuration). AreTurns c d.place found.0 d.known d.rows run.turns runs.after.rows) runs.is_its.configured run.are) in
      let P : List Request → List Reply → Type 0 = λ rs ps. kept configuration (exchanges rs ps) ≡ accepted (exchanges rs ps) in
      subst (λ (ps : List Reply). P requests ps) run.tells
      (subst (λ (rs : List Request). P rs (replies_in run.turns)) run.asks
      (turns_kept found.0 d.known d.rows runs.after.rows run.turns (subst (AreAskedBy configuration place) (sym run.asks) asked) are))

-- ---- none accepted

one_refused : (may b : Bool) (e : Exchange) (history : List Exchange) → not b ≡ true → history ≡ [] → cond (may && b) (e ∷ history) history ≡ []
one_refused may true e history other none = absurd cc
one_refused true false e history other none = none
one_refused false false e history other none = none

pub none_kept : (configuration : Configuration) (requests : List Request) (replies : List Reply)
    → list_all (λ (reply : Reply). not (reply.status == 200)) replies ≡ true → kept configuration (exchanges requests replies) ≡ []
none_kept configuration [] replies all = refl
none_kept configuration (request ∷ requests) [] all = refl
none_kept configuration (request ∷ requests) (reply ∷ replies) all =
    let others = list_all (λ (r : Reply). not (r.status == 200)) replies in
    one_refused (may_change (call_of configuration request)) (reply.status == 200) (record { request = request; reply = reply })
    (kept configuration (exchanges requests replies)) (first_true (not (reply.status == 200)) others all)
    (none_kept configuration requests replies (second_true (not (reply.status == 200)) others all))

-- ---- a view of a fleet

abbrev view_segments : FleetView → Bool → List (List ℕ)
view_segments view is_text = if is_text then behind_slash (slice_split is_slash (path_of (target_for view))) else []

whoever_asks : (actor : Actor) (view : FleetView) → may_change (called_at actor Get (view_segments view true)) ≡ false
whoever_asks Nobody view = refl
whoever_asks Author Compliance = refl
whoever_asks Author Vehicles = refl
whoever_asks (OperatorAt place) Compliance = refl
whoever_asks (OperatorAt place) Vehicles = refl

-- whoever asks for it, it changes nothing
pub view_changes_nothing : (configuration : Configuration) (o : Operator) (view : FleetView) (at : ℕ) → may_change (call_of configuration (own_request o view at)) ≡ false
view_changes_nothing configuration o view at =
    let actor = actor_of configuration o.token in
    ap (λ (is_text : Bool). may_change (called_at actor Get (view_segments view is_text))) (path_text view) ∙ whoever_asks actor view
