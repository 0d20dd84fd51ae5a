use Rattle.std.proofs.Common.{[]}
use Rattle.mds_machine.proofs.Runs.{run_of_turns}
use Rattle.tests_examples_core.proofs.Rows.{no_rows}
use Rattle.tests_examples_core.specs.Requests.{alfa, configuration}
use Rattle.tests_examples_core.specs.Vehicles.{one_row}
use Rattle.tests_examples_server.specs.Turns.{three_turns}
use Rattle.tests_examples_server.proofs.AtDesk.{three, meaning}
use Rattle.tests_examples_server.proofs.desks.runs.Goals as goal

pub returns-clause-turns : goal.returns-clause-turns
returns-clause-turns c = three

pub returns-clause-run : goal.returns-clause-run
returns-clause-run c = run_of_turns configuration 0 alfa [] no_rows three_turns one_row three

pub returns-clause-rows : goal.returns-clause-rows
returns-clause-rows c = meaning.1
