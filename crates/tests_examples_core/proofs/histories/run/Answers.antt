use Rattle.std.proofs.Common.{◌≡◌, ℕ, List, [], ◌∷◌, codes, None, Ok, inl, refl, sym, ap}
use Rattle.std.specs.Prelude.{drop}
use Rattle.std.specs.FinMap.{get, get-empty}
use Rattle.mds_fleet.specs.Books.{device_cmp}
use Rattle.mds_fleet.specs.Reading.{read_report}
use Rattle.mds_policy.specs.Reading.{read_policy}
use Rattle.mds_request.specs.Call.{call_of}
use Rattle.mds_request.specs.Reply.{Reply, success}
use Rattle.mds_request.specs.Request.{Request}
use Rattle.mds_request.specs.declared.request.Verb.TheVariants.{Put, Post}
use Rattle.mds_machine.specs.Step.{State, Step, Run, answered}
use Rattle.tests_examples_core.specs.Computed.{documents, places, zones}
use Rattle.tests_examples_core.specs.Geographies.{square_text}
use Rattle.tests_examples_core.specs.Histories.{ask_for_cap, other_report, question, answer, history, after_history}
use Rattle.tests_examples_core.specs.Machine.{done, error, start, after_square, after_cap, after_first_vehicle, square_path, cap_path, put_square, put_cap, publish, publish_alone, report, ask}
use Rattle.tests_examples_core.specs.Policies.{cap, cap_text}
use Rattle.tests_examples_core.specs.Requests.{configuration, request}
use Rattle.tests_examples_core.specs.Vehicles.{second_device, first_report, second_report, one_row, in_the_square}
use Rattle.tests_examples_core.proofs.DraftCounts.{no_cap, policy_count, the_square, the_cap, square_out, cap_out}
use Rattle.tests_examples_core.proofs.Rows.{no_rows, none_first, none_count, one_entry}
use Rattle.tests_examples_core.proofs.Session.{report_call, cap_call, square_put}
use Rattle.tests_examples_core.proofs.histories.run.Goals as goal

stepped : {w next : State} {reply : Reply} (request : Request) → answered w request ≡ (reply, next) → Step w request reply next
stepped request e = inl (ap (λ s. s.0) (sym e), ap (λ s. s.1) (sym e))

-- the states in between: the first vehicle is reported before the policy is put
abbrev with_vehicle : State
with_vehicle = record after_square { fleets = one_row ∷ no_rows ∷ [] }

abbrev with_both : State
with_both = record after_cap { fleets = one_row ∷ no_rows ∷ [] }

reported : (target body : List ℕ) → call_of configuration (request 2000 (codes "alfa") Post target body) ≡ Ok (report_call 0) → read_report body ≡ Ok (first_report 2000) → answered after_square (request 2000 (codes "alfa") Post target body) ≡ (done (codes "new"), with_vehicle)
reported target body call read = rw (call, read, none_first, none_count, none_first) refl

cap_put : (target body : List ℕ) → call_of configuration (request 1000 (codes "city") Put target body) ≡ Ok cap_call → read_policy body ≡ Ok cap → answered with_vehicle (request 1000 (codes "city") Put target body) ≡ (done (codes "new"), with_both)
cap_put target body call read = rw (call, read, no_cap, policy_count) refl

none_second : get no_rows second_device ≡ None
none_second = get-empty device_cmp second_device

reported_by_other : (target body : List ℕ) → call_of configuration (request 2000 (codes "bravo") Post target body) ≡ Ok (report_call 1) → read_report body ≡ Ok (second_report 2000) → answered after_first_vehicle (request 2000 (codes "bravo") Post target body) ≡ (done (codes "new"), after_history)
reported_by_other target body call read = rw (call, read, none_second, none_count, none_second) refl

first_step : answered start put_square ≡ (done (codes "new"), after_square)
unfolding documents
first_step = square_put square_path square_text refl refl

second_step : answered after_square (report 2000 (codes "401")) ≡ (done (codes "new"), with_vehicle)
unfolding documents
second_step = reported (codes "/fleet/events") (in_the_square (codes "401")) refl refl

third_step : answered with_vehicle put_cap ≡ (done (codes "new"), with_both)
unfolding documents
third_step = cap_put cap_path cap_text refl refl

too_early : answered with_both ask_for_cap ≡ (error 404 (codes "not_found"), with_both)
unfolding documents
too_early = refl

by_anonymous : answered with_both (ask 2000 (codes "nobody")) ≡ (error 401 (codes "token"), with_both)
unfolding documents
by_anonymous = refl

without_geography : answered with_both publish_alone ≡ (error 409 (codes "no_geography"), with_both)
unfolding documents
without_geography = rw the_cap refl

published : answered with_both publish ≡ (success (codes "{\"published_date\":1000,\"revision\":1}"), after_first_vehicle)
unfolding documents
published = rw (the_square, the_cap, square_out, cap_out) refl

by_other : answered after_first_vehicle other_report ≡ (done (codes "new"), after_history)
unfolding documents
by_other = reported_by_other (codes "/fleet/events") (in_the_square (codes "402")) refl refl

asked : answered after_history question ≡ (answer, after_history)
unfolding documents places zones
asked = rw one_entry refl

after_refusals : Run with_both (drop 6 history) after_history
after_refusals = (after_first_vehicle, stepped publish published, (after_history, stepped other_report by_other, (after_history, stepped question asked, refl)))

after_drafts : Run with_both (drop 3 history) after_history
after_drafts = (with_both, stepped ask_for_cap too_early, (with_both, stepped (ask 2000 (codes "nobody")) by_anonymous, (with_both, stepped publish_alone without_geography, after_refusals)))

pub returns : goal.returns
returns c =
    record {
      allowed = (after_square, stepped put_square first_step, (with_vehicle, stepped (report 2000 (codes "401")) second_step, (with_both, stepped put_cap third_step, after_drafts)));
    }
