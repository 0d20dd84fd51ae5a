-- Requests of the session with long texts: the machine's reply to any text of which the same is
-- read.
use Rattle.std.proofs.Common.{◌≡◌, ℕ, List, codes, Ok, refl}
use Rattle.mds_fleet.specs.Reading.{read_report}
use Rattle.mds_geography.specs.Reading.{read_geography}
use Rattle.mds_policy.specs.Reading.{read_policy}
use Rattle.mds_text.specs.declared.draft_kind.DraftKind.TheVariants.{Policy, Geography}
use Rattle.mds_request.specs.Call.{call_of}
use Rattle.mds_request.specs.declared.call.AuthorCall.TheVariants.{PutDraft}
use Rattle.mds_request.specs.declared.call.Call.{Call}
use Rattle.mds_request.specs.declared.call.Call.TheVariants.{Author, Operator}
use Rattle.mds_request.specs.declared.call.OperatorCall.TheVariants.{Report}
use Rattle.mds_request.specs.declared.request.Verb.TheVariants.{Put, Post}
use Rattle.mds_machine.specs.Step.{answered}
use Rattle.tests_examples_core.proofs.DraftCounts.{no_square, geography_count, no_cap, policy_count, the_cap}
use Rattle.tests_examples_core.proofs.Rows.{none_first, none_count, one_second, one_count, two_third, two_count}
use Rattle.tests_examples_core.specs.Geographies.{square_document}
use Rattle.tests_examples_core.specs.Ids.{square_id, cap_id}
use Rattle.tests_examples_core.specs.Machine.{done, error, start, after_square, after_cap, after_publication, after_first_vehicle, after_second_vehicle}
use Rattle.tests_examples_core.specs.Policies.{cap}
use Rattle.tests_examples_core.specs.Requests.{configuration, request}
use Rattle.tests_examples_core.specs.Vehicles.{first_report, second_report, third_report}

-- the call of a report by the operator at this index
abbrev pub report_call : ℕ → Call
report_call place = Operator place Report

abbrev pub square_call : Call
square_call = Author (PutDraft Geography square_id)

abbrev pub cap_call : Call
cap_call = Author (PutDraft Policy cap_id)

pub square_put : (target body : List ℕ) → call_of configuration (request 1000 (codes "city") Put target body) ≡ Ok square_call → read_geography body ≡ Ok square_document → answered start (request 1000 (codes "city") Put target body) ≡ (done (codes "new"), after_square)
square_put target body call read = rw (call, read, no_square, geography_count) refl

pub cap_put : (target body : List ℕ) → call_of configuration (request 1000 (codes "city") Put target body) ≡ Ok cap_call → read_policy body ≡ Ok cap → answered after_square (request 1000 (codes "city") Put target body) ≡ (done (codes "new"), after_cap)
cap_put target body call read = rw (call, read, no_cap, policy_count) refl

pub cap_again : (target body : List ℕ) → call_of configuration (request 1000 (codes "city") Put target body) ≡ Ok cap_call → read_policy body ≡ Ok cap → (answered after_cap (request 1000 (codes "city") Put target body)).0 ≡ done (codes "replaced")
cap_again target body call read = rw (call, read, the_cap) refl

pub first_reported : (target body : List ℕ) → call_of configuration (request 2000 (codes "alfa") Post target body) ≡ Ok (report_call 0) → read_report body ≡ Ok (first_report 2000) → answered after_publication (request 2000 (codes "alfa") Post target body) ≡ (done (codes "new"), after_first_vehicle)
first_reported target body call read = rw (call, read, none_first, none_count, none_first) refl

pub second_reported : (target body : List ℕ) → call_of configuration (request 2001 (codes "alfa") Post target body) ≡ Ok (report_call 0) → read_report body ≡ Ok (second_report 2000) → answered after_first_vehicle (request 2001 (codes "alfa") Post target body) ≡ (done (codes "new"), after_second_vehicle)
second_reported target body call read = rw (call, read, one_second, one_count, one_second) refl

pub third_reported : (target body : List ℕ) → call_of configuration (request 2500 (codes "alfa") Post target body) ≡ Ok (report_call 0) → read_report body ≡ Ok (third_report 2000) → answered after_second_vehicle (request 2500 (codes "alfa") Post target body) ≡ (error 409 (codes "fleet_full"), after_second_vehicle)
third_reported target body call read = rw (call, read, two_third, two_count) refl
