-- Turns of the first operator's desk, whose rows aren't computed.
use Rattle.std.proofs.Common.{◌≡◌, ℕ, List, [], codes, Ok, inl, refl, sym, ap}
use Rattle.std.specs.FinMap.{get-empty}
use Rattle.mds_fleet.specs.Books.{device_cmp}
use Rattle.mds_fleet.specs.Reading.{read_report}
use Rattle.mds_machine.specs.Meaning.{AreRows}
use Rattle.mds_machine.specs.Views.{requests_of}
use Rattle.mds_request.specs.Call.{call_of}
use Rattle.mds_request.specs.declared.request.Verb.TheVariants.{Post}
use Rattle.mds_machine.specs.Desks.{desk_does, IsTurn, AreTurns, AreMeant}
use Rattle.mds_machine.specs.Fronts.{AreAnswers}
use Rattle.mds_machine.proofs.Runs.{turns_are_meant}
use Rattle.tests_examples_core.proofs.Rows.{no_rows, none_first, none_count, one_entry}
use Rattle.tests_examples_core.proofs.Session.{report_call}
use Rattle.tests_examples_core.specs.Computed.{documents, places, zones}
use Rattle.tests_examples_core.specs.Histories.{question, answer}
use Rattle.tests_examples_core.specs.Machine.{ask, done}
use Rattle.tests_examples_core.specs.Publications.{then_withdrawn}
use Rattle.tests_examples_core.specs.Requests.{alfa, configuration, request}
use Rattle.tests_examples_core.specs.Vehicles.{first_report, in_the_square, one_row}
use Rattle.tests_examples_server.specs.Turns.{first_front, reported, counted, nothing_in_force, three_turns, two_turns, seen_by_three}

-- for any text that is read as the report
report_at : (target body : List ℕ) → call_of configuration (request 2000 (codes "alfa") Post target body) ≡ Ok (report_call 0) →
    read_report body ≡ Ok (first_report 2000) →
    desk_does configuration 0 alfa [] no_rows (request 2000 (codes "alfa") Post target body) ≡ (done (codes "new"), one_row)
report_at target body call read = rw (call, read, none_first, none_count, none_first) refl

pub reports : desk_does configuration 0 alfa [] no_rows reported.request ≡ (done (codes "new"), one_row)
unfolding documents
reports = report_at (codes "/fleet/events") (in_the_square (codes "401")) refl refl

pub counts : desk_does configuration 0 alfa first_front one_row question ≡ (answer, one_row)
unfolding documents places zones
counts = rw one_entry refl

tells_nothing : desk_does configuration 0 alfa then_withdrawn one_row (ask 3000 (codes "alfa")) ≡ (nothing_in_force.reply, one_row)
unfolding documents places zones
tells_nothing = refl

pub first_turn : IsTurn configuration 0 alfa [] no_rows reported one_row
first_turn = record { begins = ([], refl); answer = inl (ap (λ s. s.0) (sym reports), ap (λ s. s.1) (sym reports)) }

pub second_turn : IsTurn configuration 0 alfa [] one_row counted one_row
second_turn = record { begins = (first_front, refl); answer = inl (ap (λ s. s.0) (sym counts), ap (λ s. s.1) (sym counts)) }

-- the second turn at a desk that knew the publication before
pub known_turn : IsTurn configuration 0 alfa first_front one_row counted one_row
known_turn = record { begins = ([], refl); answer = inl (ap (λ s. s.0) (sym counts), ap (λ s. s.1) (sym counts)) }

third_turn : IsTurn configuration 0 alfa first_front one_row nothing_in_force one_row
third_turn = record { begins = (_, refl); answer = inl (ap (λ s. s.0) (sym tells_nothing), ap (λ s. s.1) (sym tells_nothing)) }

pub two : AreTurns configuration 0 alfa [] no_rows two_turns one_row
two = (one_row, first_turn, (one_row, second_turn, refl))

pub three : AreTurns configuration 0 alfa [] no_rows three_turns one_row
three = (one_row, first_turn, (one_row, second_turn, (one_row, third_turn, refl)))

no_requests : AreRows configuration alfa [] no_rows
no_requests device = get-empty device_cmp device

meant : AreMeant configuration 0 alfa [] no_rows three_turns one_row
meant = (turns_are_meant configuration 0 alfa [] no_rows one_row three_turns three).1

pub meaning : AreAnswers configuration alfa [] three_turns × AreRows configuration alfa (requests_of seen_by_three) one_row
meaning = meant [] ([], refl) no_requests refl
