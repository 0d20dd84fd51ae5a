-- What a call of an operator does: its reply, and the operator's rows afterwards. It depends on the zone, the operator,
-- the publications, these rows, the call and the request, and on nothing else.
use Rattle.std.specs.Prelude.{ℕ, List, map, length, codes, if◌then◌else◌, Some, is_some, Result, Ok, Err}
use Rattle.std.specs.FinMap.{get, remove, values}
use Rattle.mds_text.specs.Tree.{Json}
use Rattle.mds_policy.specs.Policy.{Policy}
use Rattle.mds_match.specs.Zone.{local_of}
use Rattle.mds_match.specs.declared.zone.Zone.{Zone}
use Rattle.mds_catalog.specs.Publication.{Publication, Published, find_policy, published_area, is_in_force, in_force}
use Rattle.mds_verdict.specs.Verdict.{verdicts, reported}
use Rattle.mds_fleet.specs.Books.{Rows, outcome, rows_after}
use Rattle.mds_fleet.specs.Reading.{read_report}
use Rattle.mds_fleet.specs.declared.book.Taken.{Taken}
use Rattle.mds_fleet.specs.declared.book.Taken.TheVariants.{New, Changed, Same}
use Rattle.mds_request.specs.Configuration.{Operator}
use Rattle.mds_request.specs.Request.{Request}
use Rattle.mds_request.specs.Reply.{Reply}
use Rattle.mds_request.specs.declared.call.OperatorCall.{OperatorCall}
use Rattle.mds_request.specs.declared.call.OperatorCall.TheVariants.{Policies, Policy as PolicyAt, Geographies, Geography, Report, Vehicles, RemoveVehicle, Compliance, PolicyCompliance}
use Rattle.mds_request.specs.declared.code.Code.{Code}
use Rattle.mds_request.specs.declared.code.Code.TheVariants.{NotFound}
use Rattle.mds_machine.specs.Answer.{told, coded, or_code, if_it, leaving, ◌>>=◌}
use Rattle.mds_machine.specs.Codes.{fault_code, book_code}
use Rattle.mds_machine.specs.Bodies.{list_json, result_json, removed_json, vehicles_json, compliance_json}
use Rattle.mds_machine.specs.Published.{policies_reply, policy_answer, geographies_reply, geography_answer}

-- the word for what a report did
abbrev pub taken_word : Taken → List ℕ
taken_word New = codes "new"
taken_word Changed = codes "changed"
taken_word Same = codes "same"

-- a report of a vehicle
abbrev pub report : Operator → Rows → Request → Result (Reply × Rows) Code
report operator rows request = do
  report ← coded fault_code (read_report request.body)
  taken ← coded book_code (outcome rows operator.limit report request.at)
  Ok (told (result_json (taken_word taken)), rows_after rows report (Ok taken))

-- a removal of a vehicle
abbrev pub removal : Rows → List ℕ → Result (Reply × Rows) Code
removal rows device =
    if is_some (get rows device) then Ok (told (removed_json device), remove rows device) else Err NotFound

-- the report on a policy at a moment: the verdicts on its rules over these rows, in the published geographies, whatever
-- the moment of their publication
abbrev pub policy_report : Zone → List Publication → Rows → ℕ → Published Policy → Json
policy_report zone publications rows t p =
    reported p.document (verdicts p.document (published_area publications) (values rows) (local_of zone t) t)

-- the reports on all policies that are in force for the operator
abbrev pub compliance_reply : Zone → Operator → List Publication → Rows → ℕ → Reply
compliance_reply zone operator publications rows t =
    told (compliance_json t (codes "policies") (list_json (map (policy_report zone publications rows t) (in_force publications operator.id t))) (length publications))

-- the report on one of them
abbrev pub policy_compliance_answer : Zone → Operator → List Publication → Rows → ℕ → List ℕ → Result Reply Code
policy_compliance_answer zone operator publications rows t id = do
  found ← or_code NotFound (find_policy publications id)
  binding ← if_it NotFound (is_in_force publications operator.id t) found
  Ok (told (compliance_json t (codes "policy") (policy_report zone publications rows t binding) (length publications)))

-- What a call does: only reports and removals change the rows.
abbrev pub operator_does : Zone → Operator → List Publication → Rows → OperatorCall → Request → Result (Reply × Rows) Code
operator_does zone operator publications rows Policies request = Ok (policies_reply publications (Some operator.id), rows)
operator_does zone operator publications rows (PolicyAt id) request = policy_answer publications (Some operator.id) id >>= leaving rows
operator_does zone operator publications rows Geographies request = Ok (geographies_reply publications, rows)
operator_does zone operator publications rows (Geography id) request = geography_answer publications id >>= leaving rows
operator_does zone operator publications rows Report request = report operator rows request
operator_does zone operator publications rows Vehicles request = Ok (told (vehicles_json (values rows)), rows)
operator_does zone operator publications rows (RemoveVehicle device) request = removal rows device
operator_does zone operator publications rows Compliance request = Ok (compliance_reply zone operator publications rows request.at, rows)
operator_does zone operator publications rows (PolicyCompliance id) request = policy_compliance_answer zone operator publications rows request.at id >>= leaving rows
