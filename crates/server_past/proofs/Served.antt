-- An operator's reply of the past is what the server would have answered it.
use Rattle.std.proofs.Common.{◌≡◌, ◌<◌, ℕ, zero, suc, Bool, true, List, [], ◌∷◌, length, get_or, ltb, Some, Ok, refl, sym, ap, ◌∙◌, arith}
use Rattle.std.specs.Prelude.{if◌then◌else◌}
use Rattle.std.specs.List.{list_all, slice_split}
use Rattle.std.specs.Str.{is_utf8}
use Rattle.std.proofs.lemmas.Bool.{and_parts, ltb-true}
use Rattle.std.proofs.lemmas.Option.{slice_get_within}
use Rattle.std.proofs.lemmas.Str.{IsUtf8-from_ascii, is_utf8-from_IsUtf8}
use Rattle.journal_folder.specs.Choosing.{in_time}
use Rattle.journal_samples.specs.Replies.{reply_over}
use Rattle.journal_samples.specs.Servers.{Holds}
use Rattle.journal_samples.specs.Standing.{Standing, after_entries, new_standing}
use Rattle.journal_samples.proofs.Replies.{entries_stay, served as reply_served}
use Rattle.journal_samples.proofs.Servers.{served}
use Rattle.mds_machine.specs.Step.{State, answered}
use Rattle.mds_request.specs.Call.{behind_slash, call_of, called_at, is_slash, path_of, segments_of}
use Rattle.mds_request.specs.Configuration.{Configuration, Operator, actor_of}
use Rattle.mds_request.specs.declared.call.Call.TheVariants as call
use Rattle.mds_request.specs.declared.config.Actor.{Actor}
use Rattle.mds_request.specs.declared.config.Actor.TheVariants.{Operator as OperatorAt}
use Rattle.mds_request.specs.declared.request.Verb.TheVariants.{Get}
use Rattle.server_durable.specs.FleetViews.{own_request, target_for}
use Rattle.server_durable.proofs.OwnTokens.{alone_in, asked_by_operator}
use Rattle.server_routes.specs.declared.app.FleetView.{FleetView}
use Rattle.server_routes.specs.declared.app.FleetView.TheVariants.{Compliance, Vehicles}
use Rattle.server_past.specs.Laws.{PastRepliesAreAnswers}
use Rattle.server_past.specs.Past.{call_for, reply_of}

-- bytes of ASCII are text
low_bytes : (bs : List ℕ) → list_all (λ b. ltb b 128) bs ≡ true → (i : ℕ) → get_or bs i 0 < 128
low_bytes [] low i = omega arith
low_bytes (b ∷ bs) low zero = ltb-true b 128 (and_parts (ltb b 128) (list_all (λ b. ltb b 128) bs) low).0
low_bytes (b ∷ bs) low (suc i) = low_bytes bs (and_parts (ltb b 128) (list_all (λ b. ltb b 128) bs) low).1 i

ascii_text : (bs : List ℕ) → list_all (λ b. ltb b 128) bs ≡ true → is_utf8 bs ≡ true
ascii_text bs low = is_utf8-from_IsUtf8 bs (IsUtf8-from_ascii bs (low_bytes bs low))

-- so is the path of a view
path_text : (view : FleetView) → is_utf8 (path_of (target_for view)) ≡ true
path_text Compliance = ascii_text (path_of (target_for Compliance)) refl
path_text Vehicles = ascii_text (path_of (target_for Vehicles)) refl

-- the segments of its target, where that is text
abbrev segments : FleetView → Bool → List (List ℕ)
segments view is_text = if is_text then behind_slash (slice_split is_slash (path_of (target_for view))) else []

led : (place : ℕ) (view : FleetView) → called_at (OperatorAt place) Get (segments view true) ≡ Ok (call.Operator place (call_for view))
led place Compliance = refl
led place Vehicles = refl

-- an operator's own request for a view is its call that has the view
own_call : (c : Configuration) (place : ℕ) (o : Operator) (view : FleetView) (t : ℕ) → actor_of c o.token ≡ OperatorAt place
    → call_of c (own_request o view t) ≡ Ok (call.Operator place (call_for view))
own_call c place o view t asks =
    ap (λ (actor : Actor). called_at actor Get (segments_of (target_for view))) asks
    ∙ ap (λ (is_text : Bool). called_at (OperatorAt place) Get (segments view is_text)) (path_text view)
    ∙ led place view

-- what is held of the operator tells what the server tells
by_holding : (c : Configuration) (place : ℕ) (o : Operator) (view : FleetView) (t : ℕ) (s : Standing) (w : State) → s.configuration ≡ c
    → actor_of c o.token ≡ OperatorAt place → Holds place s w
    → reply_over s (call_for view) (own_request o view t) ≡ (answered w (own_request o view t)).0
by_holding c place o view t s w same asks holds =
    let whole : w.configuration ≡ c = sym (ap (λ (x : Standing). x.configuration) holds.2) ∙ same in
    ap (λ (x : Standing). reply_over x (call_for view) (own_request o view t)) holds.2
    ∙ reply_served w place holds.0 (call_for view) (own_request o view t) holds.1
    (ap (λ (x : Configuration). call_of x (own_request o view t)) whole ∙ own_call c place o view t asks)

pub are_answers : PastRepliesAreAnswers
are_answers text c place operator view t entries history w read is are run =
    let within : place < length c.operators = slice_get_within c.operators place operator is in
    let early = in_time (Some t) entries in
    let holds = served c place early history w (alone_in text c read).0 within are run in
    let s = new_standing c place in
    ap (reply_of c entries view t place) is
    ∙ by_holding c place operator view t (after_entries s early) w (entries_stay s early).1
    (asked_by_operator text c place operator view t read is) holds
