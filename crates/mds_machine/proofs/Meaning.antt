-- An operator's own steps keep the rows equal to those of its requests.
use Rattle.std.proofs.Common.{◌≡◌, ◌≢◌, ℕ, ◌+◌, cond, inl, inr, List, [], ◌∷◌, ◌++◌, Option, Some, None, Result, Ok, Err, refl, sym, ap, subst, ◌∙◌, arith}
use Rattle.std.specs.Prelude.{reverse}
use Rattle.std.specs.Option.{is_some, option_map}
use Rattle.std.specs.Result.{result_ok}
use Rattle.std.specs.List.{filter_map, slice_get}
use Rattle.std.specs.FinMap.{get, remove, same_map, empty, get-empty}
use Rattle.std.proofs.lemmas.List.{append-nil, reverse-append}
use Rattle.std.proofs.lemmas.Option.{slice_get-map}
use Rattle.std.proofs.lemmas.List.Elements.{filter_map-append}
use Rattle.mds_text.specs.Fault.{Fault}
use Rattle.mds_catalog.specs.Publication.{Publication}
use Rattle.mds_match.specs.Row.{Row}
use Rattle.mds_fleet.specs.Books.{Report, Rows, outcome, rows_after}
use Rattle.mds_fleet.specs.History.{Event, arrival, removal, accepted_reports, row_by}
use Rattle.mds_fleet.specs.Laws.{Follows, Leads}
use Rattle.mds_fleet.specs.Reading.{read_report}
use Rattle.mds_fleet.specs.declared.book.Taken.{Taken}
use Rattle.mds_fleet.specs.declared.book.BookFault.{BookFault}
use Rattle.mds_fleet.proofs.ByHistory.{follows_history, leads_on, follows_report, follows_absent, always_leads}
use Rattle.mds_fleet.proofs.Rows.{device_total, device_exact}
use Rattle.mds_request.specs.Configuration.{Configuration, Operator, actor_of}
use Rattle.mds_request.specs.Call.{call_of}
use Rattle.mds_request.specs.Request.{Request}
use Rattle.mds_request.specs.Reply.{Reply, refused}
use Rattle.mds_request.specs.declared.call.AuthorCall.{AuthorCall}
use Rattle.mds_request.specs.declared.call.OperatorCall.{OperatorCall}
use Rattle.mds_request.specs.declared.call.OperatorCall.TheVariants as operators
use Rattle.mds_request.specs.declared.call.Call.{Call}
use Rattle.mds_request.specs.declared.call.Call.TheVariants as call
use Rattle.mds_request.specs.declared.code.Code.{Code}
use Rattle.mds_request.specs.declared.code.Code.TheVariants.{NoMemory, NotFound}
use Rattle.mds_request.specs.declared.config.Actor.TheVariants.{Operator as OperatorAt}
use Rattle.mds_machine.specs.Answer.{settled, coded, told, leaving, ◌>>=◌}
use Rattle.mds_machine.specs.Bodies.{result_json, removed_json}
use Rattle.mds_machine.specs.Codes.{fault_code, book_code}
use Rattle.mds_machine.specs.Operator.{operator_does, taken_word, policy_compliance_answer}
use Rattle.mds_machine.specs.Published.{policy_answer, geography_answer}
use Rattle.mds_machine.specs.Laws.{HasOneAnswer}
use Rattle.mds_machine.specs.Meaning.{own_call, own_step, event_by, events_of, AreRows, IsAnswer, Shows}
use Rattle.mds_machine.specs.Step.{State, Step, answered, new_state}
use Rattle.mds_machine.specs.Views.{Seen, asked, as_publication, as_request, requests_of, publications_of}
use Rattle.mds_machine.proofs.Callers.{IsBy}
use Rattle.mds_machine.proofs.Steps.{call_step, lifted_reply, lifted_rows, operator_step, own_by, leaves_others}

-- ---- rows and events

abbrev pub Agrees : ℕ → List Event → Rows → Type 0
Agrees limit events rows = (device : List ℕ) → get rows device ≡ row_by (accepted_reports limit events device)

-- rows that agree with the same events are the same
pub same_rows : (limit : ℕ) (events : List Event) (rows others : Rows) → Agrees limit events rows → Agrees limit events others → rows ≡ others
same_rows limit events rows others h k = same_map device_total device_exact rows others (λ q. h q ∙ sym (k q))

led : (limit : ℕ) (events : List Event) → (rows : Rows) × Leads limit events rows × Agrees limit events rows
led limit events =
    let there = always_leads limit events in
    (there.0, there.1, λ device. follows_history limit events there.0 device there.1)

goes_on : (limit : ℕ) (event : Event) (before : List Event) (old new : Rows) → Agrees limit before old → Follows limit event old new → Agrees limit (event ∷ before) new
goes_on limit event before old new agrees follows device =
    let there = led limit before in
    let leads = subst (Leads limit before) (same_rows limit before there.0 old there.2 agrees) there.1 in
    follows_history limit (event ∷ before) new device ((leads_on limit before event old new leads).1 follows)

-- events with one more, if there is one
abbrev onto : Option Event → List Event → List Event
onto None before = before
onto (Some event) before = event ∷ before

-- ---- one call

module _ (configuration : Configuration) (operator : Operator) (publications : List Publication) (rows : Rows) (request : Request) (before : List Event) (agrees : Agrees operator.limit before rows) where
  abbrev Left : Option Event → Rows → Type 0
  Left event new = Agrees operator.limit (onto event before) new

  -- a call that only reads doesn't change the rows
  telling : (answer : Result Reply Code) → Left None (settled rows (answer >>= leaving rows)).1
  telling (Ok reply) = agrees
  telling (Err code) = agrees

  -- a report
  abbrev event_reply : Report → Result Taken BookFault → Result (Reply × Rows) Code
  event_reply report result = coded book_code result >>= λ taken. Ok (told (result_json (taken_word taken)), rows_after rows report (Ok taken))

  kept : (report : Report) (result : Result Taken BookFault) → (settled rows (event_reply report result)).1 ≡ rows_after rows report result
  kept report (Ok taken) = refl
  kept report (Err fault) = refl

  reported : (read : Result Report Fault) → Left (option_map (λ report. arrival report request.at) (result_ok read)) (settled rows (coded fault_code read >>= λ report. event_reply report (outcome rows operator.limit report request.at))).1
  reported (Err fault) = agrees
  reported (Ok report) =
      subst (Left (Some (arrival report request.at))) (sym (kept report (outcome rows operator.limit report request.at)))
      (goes_on operator.limit (arrival report request.at) before rows _ agrees (follows_report operator.limit report request.at rows))

  -- a removal
  removed : (device : List ℕ) (held : Option Row) → get rows device ≡ held → Left (Some (removal device)) (settled rows (cond (is_some held) (Ok (told (removed_json device), remove rows device)) (Err NotFound))).1
  removed device None is = goes_on operator.limit (removal device) before rows rows agrees (follows_absent operator.limit device rows is)
  removed device (Some row) is = goes_on operator.limit (removal device) before rows _ agrees refl

  by_own : (place : ℕ) (own : OperatorCall) → Left (event_by (Ok (call.Operator place own)) request) (settled rows (operator_does configuration.zone operator publications rows own request)).1
  by_own place operators.Policies = agrees
  by_own place (operators.Policy id) = telling (policy_answer publications (Some operator.id) id)
  by_own place operators.Geographies = agrees
  by_own place (operators.Geography id) = telling (geography_answer publications id)
  by_own place operators.Report = reported (read_report request.body)
  by_own place operators.Vehicles = agrees
  by_own place (operators.RemoveVehicle device) = removed device (get rows device) refl
  by_own place operators.Compliance = agrees
  by_own place (operators.PolicyCompliance id) =
      telling (policy_compliance_answer configuration.zone operator publications rows request.at id)

  by_author : (own : AuthorCall) → Left (event_by (Ok (call.Author own)) request) rows
  by_author own = agrees

  by_call : (call : Result Call Code) → Left (event_by call request) (settled rows (call >>= own_call >>= λ own. operator_does configuration.zone operator publications rows own request)).1
  by_call (Ok (call.Operator place own)) = by_own place own
  by_call (Ok (call.Author own)) = by_author own
  by_call (Err code) = agrees

-- ---- a list of requests

abbrev event_of : Configuration → Request → Option Event
event_of configuration request = event_by (call_of configuration request) request

last_event : (f : Request → Option Event) (request : Request) (event : Option Event) (before : List Event) → f request ≡ event → reverse (filter_map f (request ∷ [])) ++ before ≡ onto event before
last_event f request None before is = rw is refl
last_event f request (Some event) before is = rw is refl

events_on : (configuration : Configuration) (requests : List Request) (request : Request) → events_of configuration (requests ++ request ∷ []) ≡ onto (event_of configuration request) (events_of configuration requests)
events_on configuration requests request =
    let f = event_of configuration in
    ap reverse (filter_map-append f requests (request ∷ [])) ∙ reverse-append (filter_map f requests) (filter_map f (request ∷ []))
    ∙ last_event f request (f request) (reverse (filter_map f requests)) refl

-- the rows of a list of requests, after the own step of one more request, are those of the list with this request at
-- its end
abbrev RowsGoOn : Type 0
RowsGoOn =
    (configuration : Configuration) (operator : Operator) (publications : List Publication) (requests : List Request)
    (request : Request) (rows : Rows)
    → AreRows configuration operator requests rows
    → AreRows configuration operator (requests ++ request ∷ []) (own_step configuration operator publications rows request).1

pub rows_go_on : RowsGoOn
rows_go_on configuration operator publications requests request rows are =
    subst (λ events. Agrees operator.limit events (own_step configuration operator publications rows request).1)
    (sym (events_on configuration requests request))
    (by_call configuration operator publications rows request (events_of configuration requests) are (call_of configuration request))

pub has_one_answer : HasOneAnswer
has_one_answer configuration operator seen request =
    let events = events_of configuration (requests_of seen) in
    let there = led operator.limit events in
    let step : Rows → Reply = λ rows. (own_step configuration operator (publications_of seen) rows request).0 in (
      (step there.0, (there.0, there.2, refl)),
      λ reply other h k. h.2 ∙ ap step (same_rows operator.limit events h.0 k.0 h.1 k.1) ∙ sym k.2,
    )

-- ---- a step

module _ (w : State) (request : Request) (place : ℕ) (operator : Operator) (rows : Rows) (found : slice_get w.configuration.operators place ≡ Some operator) (held : slice_get w.fleets place ≡ Some rows) where
  abbrev own_after : Result Call Code → Reply × Rows
  own_after call =
      settled rows (call >>= own_call >>= λ own. operator_does w.configuration.zone operator w.publications rows own request)

  abbrev Own : Result Call Code → Reply × State → Type 0
  Own call s = (s.0 ≡ (own_after call).0) × (slice_get s.1.fleets place ≡ Some (own_after call).1)

  own_operator : (own : OperatorCall) → Own (Ok (call.Operator place own)) (call_step w (Ok (call.Operator place own)) request)
  own_operator own =
      let does = operator_does w.configuration.zone operator w.publications rows own request in
      subst (λ f. Own (Ok (call.Operator place own)) (operator_step w place f (slice_get w.fleets place) own request)) (sym found)
      (subst (λ h. Own (Ok (call.Operator place own)) (operator_step w place (Some operator) h own request)) (sym held)
      (lifted_reply w place rows does, lifted_rows w place rows does held))

  own_is : (call : Result Call Code) → IsBy (OperatorAt place) call → Own call (call_step w call request)
  own_is (Err code) by = (refl, held)
  own_is (Ok (call.Author own)) by = absurd by
  own_is (Ok (call.Operator at own)) by =
      subst (λ x. Own (Ok (call.Operator x own)) (call_step w (Ok (call.Operator x own)) request)) (sym by) (own_operator own)

-- the step of an operator's request is that operator's own step
pub is_own : (w : State) (request : Request) (place : ℕ) (operator : Operator) (rows : Rows) → actor_of w.configuration request.token ≡ OperatorAt place → slice_get w.configuration.operators place ≡ Some operator → slice_get w.fleets place ≡ Some rows → ((answered w request).0 ≡ (own_step w.configuration operator w.publications rows request).0) × (slice_get (answered w request).1.fleets place ≡ Some (own_step w.configuration operator w.publications rows request).1)
is_own w request place operator rows whose found held =
    own_is w request place operator rows found held (call_of w.configuration request) (own_by w request place whose)

-- In a state that shows a view to an operator, a request of it has the answer that this view defines, and the next
-- state shows the view with this request at its end.
abbrev IsMeant : Type 0
IsMeant =
    (w : State) (request : Request) (reply : Reply) (next : State) (place : ℕ) (operator : Operator) (seen : List Seen)
    → actor_of w.configuration request.token ≡ OperatorAt place → slice_get w.configuration.operators place ≡ Some operator
    → Shows w.configuration operator place seen w → Step w request reply next → reply ≢ refused NoMemory
    → IsAnswer w.configuration operator seen request reply
    × Shows w.configuration operator place (seen ++ asked request ∷ []) next

pub is_meant : IsMeant
is_meant w request reply next place operator seen whose found shows h really = elim h [
  | inl a ↦ let own = is_own w request place operator shows.rows whose found shows.held in
      let step : List Publication → Reply × Rows = λ publications. own_step w.configuration operator publications shows.rows request in
      let left = leaves_others w request reply next place (place + 1) whose (inl a) (λ is. omega (arith, is)) in (
        (shows.rows, shows.are, a.0 ∙ own.0 ∙ ap (λ publications. (step publications).0) (sym shows.publications)),
        record {
          rows = (step w.publications).1;
          held = ap (λ s. slice_get s.fleets place) a.1 ∙ own.1;
          publications = filter_map-append as_publication seen (asked request ∷ []) ∙ append-nil (publications_of seen) ∙ shows.publications ∙ sym left.0.publications;
          are = subst (λ requests. AreRows w.configuration operator requests (step w.publications).1) (sym (filter_map-append as_request seen (asked request ∷ [])))
              (rows_go_on w.configuration operator w.publications (requests_of seen) request shows.rows shows.are);
        },
      )
  | inr a ↦ absurd (really a.1)
]

-- a new machine shows the empty view to each operator
abbrev BeginsWithoutRows : Type 0
BeginsWithoutRows =
    (configuration : Configuration) (place : ℕ) (operator : Operator)
    → slice_get configuration.operators place ≡ Some operator
    → Shows configuration operator place [] (new_state configuration)

pub begins_without_rows : BeginsWithoutRows
begins_without_rows configuration place operator found =
    record {
      rows = empty;
      held = slice_get-map (λ operator. empty) configuration.operators place ∙ ap (λ found. option_map (λ operator. empty) found) found;
      publications = refl;
      are = λ device. get-empty _ device;
    }
