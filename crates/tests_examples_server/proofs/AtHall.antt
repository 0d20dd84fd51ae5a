-- Turns of the first operator's desk as contracts of calls state them.
use Rattle.std.proofs.Common.{◌≡◌, [], Some, inl, inr, refl, sym, ap, subst}
use Rattle.std.specs.Prelude.{unwrap_or, slice_get}
use Rattle.mds_request.specs.Configuration.{Operator}
use Rattle.mds_machine.specs.Desks.{IsTurn}
use Rattle.mds_desk.specs.Desk.{IsAnsweredAt, Learns, TakesTurn}
use Rattle.tests_examples_core.proofs.Rows.{no_rows}
use Rattle.tests_examples_core.specs.Histories.{question, answer}
use Rattle.tests_examples_core.specs.Requests.{alfa, configuration}
use Rattle.tests_examples_core.specs.Vehicles.{one_row}
use Rattle.tests_examples_server.specs.DeskStates.{desk}
use Rattle.tests_examples_server.specs.Turns.{first_front, reported, counted}
use Rattle.tests_examples_server.proofs.AtDesk.{reports, counts, first_turn, second_turn, known_turn}

-- the operator at index 0 is alfa
first : {operator : Operator} → slice_get configuration.operators 0 ≡ Some operator → alfa ≡ operator
first found = ap (λ o. unwrap_or o alfa) found

pub takes_report : TakesTurn (desk [] no_rows) reported.request reported.reply (desk [] one_row)
takes_report =
    record {
      same = record { configuration = refl; place = refl };
      turn = λ operator found. subst (λ o. IsTurn configuration 0 o [] no_rows reported one_row) (first found) first_turn;
      shown = inr (λ operator found. subst (IsAnsweredAt (desk [] no_rows) reported.request reported.reply (desk [] one_row)) (first found) (inl (ap (λ s. s.0) (sym reports), ap (λ s. s.1) (sym reports))));
    }

pub takes_question : TakesTurn (desk [] one_row) question answer (desk first_front one_row)
takes_question =
    record {
      same = record { configuration = refl; place = refl };
      turn = λ operator found. subst (λ o. IsTurn configuration 0 o [] one_row counted one_row) (first found) second_turn;
      shown = inr (λ operator found. subst (IsAnsweredAt (desk [] one_row) question answer (desk first_front one_row)) (first found) (inl (ap (λ s. s.0) (sym counts), ap (λ s. s.1) (sym counts))));
    }

pub takes_known : TakesTurn (desk first_front one_row) question answer (desk first_front one_row)
takes_known =
    record {
      same = record { configuration = refl; place = refl };
      turn = λ operator found. subst (λ o. IsTurn configuration 0 o first_front one_row counted one_row) (first found) known_turn;
      shown = inr (λ operator found. subst (IsAnsweredAt (desk first_front one_row) question answer (desk first_front one_row)) (first found) (inl (ap (λ s. s.0) (sym counts), ap (λ s. s.1) (sym counts))));
    }

pub learns_first : Learns (desk [] one_row) first_front (desk first_front one_row)
learns_first =
    record {
      same = record { configuration = refl; place = refl };
      kept = (first_front, refl);
      told = ([], refl);
      one = inr refl;
      rows = refl;
    }
