-- What a request with success makes of the row of one device of an operator.
use Rattle.std.proofs.Common.{◌≡◌, ℕ, ◌==◌, ◌&&◌, Bool, true, false, cond, refl, sym, ap, subst, ◌∙◌, arith}
use Rattle.std.proofs.Common.{List, [], ◌∷◌, bytes_eq, Option, Some, None, Result, Ok, Err}
use Rattle.std.specs.FinMap.{get, insert, remove, get-insert, get-remove}
use Rattle.std.specs.Option.{is_some}
use Rattle.std.proofs.lemmas.Bool.Decides.{nat_tests}
use Rattle.std.proofs.lemmas.Map.Text.{is_eq-slice_cmp}
use Rattle.mds_text.specs.Fault.{Fault}
use Rattle.mds_catalog.specs.Publication.{Publication}
use Rattle.mds_match.specs.Row.{Row}
use Rattle.mds_fleet.specs.Books.{Report as Told, Rows, outcome, reported, row_after, row_from, rows_after, run_start}
use Rattle.mds_fleet.specs.History.{row_by, run_from}
use Rattle.mds_fleet.specs.Reading.{read_report}
use Rattle.mds_fleet.specs.declared.book.BookFault.{BookFault}
use Rattle.mds_fleet.specs.declared.book.Taken.{Taken}
use Rattle.mds_fleet.specs.declared.book.Taken.TheVariants.{New, Changed, Same}
use Rattle.mds_fleet.proofs.Cases.{Case}
use Rattle.mds_fleet.proofs.Determined.{can_be}
use Rattle.mds_fleet.proofs.Rows.{device_total}
use Rattle.mds_request.specs.Call.{call_of}
use Rattle.mds_request.specs.Code.{status_of}
use Rattle.mds_request.specs.Configuration.{Configuration, Operator, actor_of}
use Rattle.mds_request.specs.Reply.{Reply}
use Rattle.mds_request.specs.Request.{Request}
use Rattle.mds_request.specs.declared.call.Call.{Call}
use Rattle.mds_request.specs.declared.call.Call.TheVariants as call
use Rattle.mds_request.specs.declared.call.OperatorCall.{OperatorCall}
use Rattle.mds_request.specs.declared.call.OperatorCall.TheVariants as operators
use Rattle.mds_request.specs.declared.code.Code.{Code}
use Rattle.mds_request.specs.declared.code.Code.TheVariants.{BadLine, NotFound}
use Rattle.mds_request.specs.declared.config.Actor.TheVariants.{Operator as OperatorAt}
use Rattle.mds_request.proofs.Callers.{same_operator}
use Rattle.mds_machine.specs.Answer.{coded, leaving, settled, told, ◌>>=◌}
use Rattle.mds_machine.specs.Bodies.{removed_json, result_json}
use Rattle.mds_machine.specs.Codes.{book_code, fault_code}
use Rattle.mds_machine.specs.Meaning.{own_call}
use Rattle.mds_machine.specs.Operator.{operator_does, policy_compliance_answer, taken_word}
use Rattle.mds_machine.specs.Published.{geography_answer, policy_answer}
use Rattle.journal_compaction.specs.declared.kind.Device.{Device}
use Rattle.journal_compaction.specs.declared.kind.EntryKind.{EntryKind}
use Rattle.journal_compaction.specs.declared.kind.EntryKind.TheVariants.{Report, Removal, Other}
use Rattle.journal_compaction.specs.Kinds.{as_report, kind_by}
use Rattle.journal_compaction.specs.Laws.{added}
use Rattle.journal_compaction.specs.Staying.{is_same}
use Rattle.journal_compaction.proofs.Known.{equal_bytes, same_bytes, turned}

-- a device's row after an entry of this kind, whose body reads so
abbrev pub moved : Device → EntryKind → Result Told Fault → Option Row → Option Row
moved device (Report other state) (Ok report) held = cond (is_same other device) (Some (row_after held report)) held
moved device (Report other state) (Err fault) held = held
moved device (Removal other) read held = cond (is_same other device) None held
moved device Other read held = held

-- ---- the row of reports

row_more : (r : Told) (reports : List Told) → row_by (r ∷ reports) ≡ Some (row_after (row_by reports) r)
row_more r [] = refl
row_more r (last ∷ earlier) = ap (λ start. Some (row_from r start)) (by (bytes_eq last.state r.state) refl)
  where
    by : (same : Bool) → bytes_eq last.state r.state ≡ same
        → cond same (run_from r.state last.timestamp earlier) r.timestamp ≡ cond same (run_from last.state last.timestamp earlier) r.timestamp
    by true is = ap (λ s. run_from s last.timestamp earlier) (sym (equal_bytes last.state r.state is))
    by false is = refl

pub row_added : (device : Device) (kind : EntryKind) (read : Result Told Fault) (reports : List Told)
    → row_by (added device kind read reports) ≡ moved device kind read (row_by reports)
row_added device Other read reports = refl
row_added device (Removal other) read reports = by (is_same other device)
  where
    by : (same : Bool) → row_by (cond same [] reports) ≡ cond same None (row_by reports)
    by true = refl
    by false = refl
row_added device (Report other state) (Err fault) reports = refl
row_added device (Report other state) (Ok report) reports = by (is_same other device)
  where
    by : (same : Bool) → row_by (cond same (report ∷ reports) reports) ≡ cond same (Some (row_after (row_by reports) report)) (row_by reports)
    by true = row_more report reports
    by false = refl

-- ---- what an operator's calls do

-- no refusal is a success
pub fails : (code : Code) → status_of code ≡ 200 → ⊥
fails BadLine is = omega (arith, is)
fails other is = omega (arith, is)

left : (rows : Rows) (answer : Result Reply Code) → (settled rows (answer >>= leaving rows)).1 ≡ rows
left rows (Ok reply) = refl
left rows (Err code) = refl

module _ (configuration : Configuration) (place : ℕ) (operator : Operator) (front : List Publication) (rows : Rows) (request : Request) (id : List ℕ) where
  -- a device of the operator
  abbrev here : List ℕ → Device
  here device = record { operator = place; id = device }

  same_here : (device : List ℕ) → is_same (here device) (here id) ≡ bytes_eq id device
  same_here device =
      let itself : (place == place) ≡ true = grind (arith, nat_tests) in
      ap (λ b. b && bytes_eq device id) itself ∙ turned device id (bytes_eq device id) (bytes_eq id device) refl refl

  abbrev after_report : Told → Option Row
  after_report report = cond (is_same (here report.device) (here id)) (Some (row_after (get rows id) report)) (get rows id)

  -- a new or a changed row
  stored : (report : Told) → get (insert rows report.device (row_after (get rows report.device) report)) id ≡ after_report report
  stored report =
      get-insert device_total rows report.device (row_after (get rows report.device) report) id
      ∙ ap (λ b. cond b (Some (row_after (get rows report.device) report)) (get rows id)) (is_eq-slice_cmp id report.device)
      ∙ by (bytes_eq id report.device) refl
      ∙ ap (λ b. cond b (Some (row_after (get rows id) report)) (get rows id)) (sym (same_here report.device))
    where
      by : (same : Bool) → bytes_eq id report.device ≡ same
          → cond same (Some (row_after (get rows report.device) report)) (get rows id) ≡ cond same (Some (row_after (get rows id) report)) (get rows id)
      by true is = ap (λ q. Some (row_after (get rows q) report)) (sym (equal_bytes id report.device is))
      by false is = refl

  row_again : (row : Row) (report : Told) → reported row ≡ report → row_after (Some row) report ≡ row
  row_again row report same =
      ap (λ r. row_from r (run_start row r)) (sym same)
      ∙ ap (λ b. row_from (reported row) (cond b row.since row.timestamp)) (same_bytes row.state)

  -- a row that stays, since the report says what it has
  stayed : (report : Told) (row : Row) → get rows report.device ≡ Some row → reported row ≡ report → get rows id ≡ after_report report
  stayed report row held same =
      by (bytes_eq id report.device) refl ∙ ap (λ b. cond b (Some (row_after (get rows id) report)) (get rows id)) (sym (same_here report.device))
    where
      by : (is : Bool) → bytes_eq id report.device ≡ is → get rows id ≡ cond is (Some (row_after (get rows id) report)) (get rows id)
      by true is =
          let at : get rows id ≡ Some row = ap (get rows) (equal_bytes id report.device is) ∙ held in
          at ∙ ap (λ r. Some r) (sym (row_again row report same)) ∙ ap (λ o. Some (row_after o report)) (sym at)
      by false is = refl

  -- what a report is answered, and the rows after it
  abbrev taken : Told → Result Taken BookFault → Reply × Rows
  taken report result = settled rows (coded book_code result >>= λ t. Ok (told (result_json (taken_word t)), rows_after rows report (Ok t)))

  taken_moves : (report : Told) (result : Result Taken BookFault) → Case rows operator.limit report request.at result (rows_after rows report result)
      → (taken report result).0.status ≡ 200 → get (taken report result).1 id ≡ after_report report
  taken_moves report (Err fault) is ok = absurd (fails (book_code fault) ok)
  taken_moves report (Ok New) is ok = stored report
  taken_moves report (Ok Changed) is ok = stored report
  taken_moves report (Ok Same) is ok = stayed report is.0 is.1.held is.2

  abbrev reported_by : Result Told Fault → Reply × Rows
  reported_by read =
      settled rows (coded fault_code read >>= λ report. coded book_code (outcome rows operator.limit report request.at) >>= λ t.
      Ok (told (result_json (taken_word t)), rows_after rows report (Ok t)))

  report_moves : (read : Result Told Fault) → (reported_by read).0.status ≡ 200
      → get (reported_by read).1 id ≡ moved (here id) (as_report place read) read (get rows id)
  report_moves (Err fault) ok = refl
  report_moves (Ok report) ok =
      taken_moves report (outcome rows operator.limit report request.at) (can_be rows operator.limit report request.at) ok

  abbrev removed : List ℕ → Option Row → Reply × Rows
  removed device held = settled rows (cond (is_some held) (Ok (told (removed_json device), remove rows device)) (Err NotFound))

  removal_moves : (device : List ℕ) (held : Option Row) → (removed device held).0.status ≡ 200
      → get (removed device held).1 id ≡ cond (is_same (here device) (here id)) None (get rows id)
  removal_moves device None ok = absurd (fails NotFound ok)
  removal_moves device (Some row) ok =
      get-remove device_total rows device id ∙ ap (λ b. cond b None (get rows id)) (is_eq-slice_cmp id device ∙ sym (same_here device))

  abbrev answered : Result Call Code → Reply × Rows
  answered called = settled rows (called >>= own_call >>= λ own. operator_does configuration.zone operator front rows own request)

  abbrev Moves : Result Call Code → Type 0
  Moves called =
      (answered called).0.status ≡ 200
      → get (answered called).1 id ≡ moved (here id) (kind_by called request.body) (read_report request.body) (get rows id)

  reads : (answer : Result Reply Code) → get (settled rows (answer >>= leaving rows)).1 id ≡ get rows id
  reads answer = ap (λ m. get m id) (left rows answer)

  own_moves : (own : OperatorCall) → Moves (Ok (call.Operator place own))
  own_moves operators.Policies ok = refl
  own_moves (operators.Policy policy) ok = reads (policy_answer front (Some operator.id) policy)
  own_moves operators.Geographies ok = refl
  own_moves (operators.Geography geography) ok = reads (geography_answer front geography)
  own_moves operators.Report ok = report_moves (read_report request.body) ok
  own_moves operators.Vehicles ok = refl
  own_moves (operators.RemoveVehicle device) ok = removal_moves device (get rows device) ok
  own_moves operators.Compliance ok = refl
  own_moves (operators.PolicyCompliance policy) ok = reads (policy_compliance_answer configuration.zone operator front rows request.at policy)

  called_moves : (called : Result Call Code) → call_of configuration request ≡ called → actor_of configuration request.token ≡ OperatorAt place → Moves called
  called_moves (Err code) is who ok = refl
  called_moves (Ok (call.Author own)) is who ok = refl
  called_moves (Ok (call.Operator at own)) is who ok =
      subst (λ p. Moves (Ok (call.Operator p own))) (sym (same_operator configuration request place at own who is)) (own_moves own) ok

  -- a success of the operator's own step
  pub own_step_moves : actor_of configuration request.token ≡ OperatorAt place → Moves (call_of configuration request)
  own_step_moves who = called_moves (call_of configuration request) refl who
