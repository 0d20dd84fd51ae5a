-- An operator's answers, by what is published and by this operator's own requests alone: without any state.
use Rattle.std.specs.Prelude.{◌≡◌, ℕ, List, reverse, filter_map, Option, Some, None, option_map, Result, Ok, Err, slice_get}
use Rattle.std.specs.FinMap.{get}
use Rattle.std.specs.Result.{result_ok}
use Rattle.mds_catalog.specs.Publication.{Publication}
use Rattle.mds_fleet.specs.Books.{Rows}
use Rattle.mds_fleet.specs.History.{Event, arrival, removal, accepted_reports, row_by}
use Rattle.mds_fleet.specs.Reading.{read_report}
use Rattle.mds_request.specs.Configuration.{Configuration, Operator}
use Rattle.mds_request.specs.Call.{call_of}
use Rattle.mds_request.specs.Request.{Request}
use Rattle.mds_request.specs.Reply.{Reply}
use Rattle.mds_request.specs.declared.call.OperatorCall.{OperatorCall}
use Rattle.mds_request.specs.declared.call.OperatorCall.TheVariants.{Report, RemoveVehicle}
use Rattle.mds_request.specs.declared.call.Call.{Call}
use Rattle.mds_request.specs.declared.call.Call.TheVariants.{Author, Operator as OperatorAt}
use Rattle.mds_request.specs.declared.code.Code.{Code}
use Rattle.mds_request.specs.declared.code.Code.TheVariants.{Role}
use Rattle.mds_machine.specs.Answer.{settled, ◌>>=◌}
use Rattle.mds_machine.specs.Operator.{operator_does}
use Rattle.mds_machine.specs.Step.{State}
use Rattle.mds_machine.specs.Views.{Seen, requests_of, publications_of}

-- an operator's own call; a call of the author is none, and no operator's request has one
abbrev pub own_call : Call → Result OperatorCall Code
own_call (OperatorAt place call) = Ok call
own_call (Author call) = Err Role

-- an operator's own step: the reply to its request, and its rows afterwards
abbrev pub own_step : Configuration → Operator → List Publication → Rows → Request → Reply × Rows
own_step configuration operator publications rows request =
    settled rows (call_of configuration request >>= own_call >>= λ call. operator_does configuration.zone operator publications rows call request)

-- what a call does to a fleet, if anything: it reports a vehicle, or removes the one in the path
abbrev pub event_by : Result Call Code → Request → Option Event
event_by (Ok (OperatorAt place Report)) request =
    option_map (λ report. arrival report request.at) (result_ok (read_report request.body))
event_by (Ok (OperatorAt place (RemoveVehicle device))) request = Some (removal device)
event_by other request = None

-- the reports and removals of a list of requests, the last one first
abbrev pub events_of : Configuration → List Request → List Event
events_of configuration requests = reverse (filter_map (λ request. event_by (call_of configuration request) request) requests)

-- the rows of an operator's list of requests: each device's row follows from its accepted reports
abbrev pub AreRows : Configuration → Operator → List Request → Rows → Type 0
AreRows configuration operator requests rows =
    (device : List ℕ) → get rows device ≡ row_by (accepted_reports operator.limit (events_of configuration requests) device)

-- The answer to an operator's request after a view: the reply of its own step with the publications of the view and the
-- rows of the view's requests.
abbrev pub IsAnswer : Configuration → Operator → List Seen → Request → Reply → Type 0
IsAnswer configuration operator seen request reply =
    (rows : Rows) × AreRows configuration operator (requests_of seen) rows
    × (reply ≡ (own_step configuration operator (publications_of seen) rows request).0)

-- a state's publications, and an operator's rows in it, are those of a view
pub record Shows (configuration : Configuration) (operator : Operator) (place : ℕ) (seen : List Seen) (w : State) : Type 0 where
  pub rows : Rows
  pub held : slice_get w.fleets place ≡ Some rows
  pub publications : publications_of seen ≡ w.publications
  pub are : AreRows configuration operator (requests_of seen) rows
