use mathlib.Core.List.{IsPrefix}
use Rattle.std.proofs.Common.{◌≡◌, ℕ, zero, suc, [], Some, refl, ap, subst}
use Rattle.std.specs.Prelude.{unwrap_or, slice_get}
use Rattle.mds_fleet.specs.Books.{Rows}
use Rattle.mds_request.specs.Configuration.{Operator}
use Rattle.mds_machine.specs.Fronts.{last_front}
use Rattle.mds_machine.specs.OneHistory.{AreItsTurns}
use Rattle.tests_examples_core.proofs.Rows.{no_rows}
use Rattle.tests_examples_core.specs.Histories.{no_drafts}
use Rattle.tests_examples_core.specs.Requests.{alfa, configuration}
use Rattle.tests_examples_core.specs.Vehicles.{one_row}
use Rattle.tests_examples_server.specs.Turns.{first_front, turns_of}
use Rattle.tests_examples_server.proofs.AtDesk.{two}
use Rattle.tests_examples_server.proofs.AtRoom.{room_turns}
use Rattle.tests_examples_server.proofs.histories.served_history.Goals as goal

abbrev HasTurned : ℕ → Operator → Type 0
HasTurned place operator =
    (rows : Rows) × AreItsTurns configuration place operator (turns_of place) rows
    × IsPrefix (last_front [] (turns_of place)) first_front

desks : (place : ℕ) (operator : Operator) → slice_get configuration.operators place ≡ Some operator → HasTurned place operator
desks zero operator found = subst (HasTurned 0) (ap (λ o. unwrap_or o alfa) found) (one_row, two, ([], refl))
desks (suc place) operator found = (no_rows, refl, (first_front, refl))

pub returns : goal.returns
returns c = record { server = record { drafts = no_drafts; room = room_turns; desks = desks } }
