use Rattle.tests_examples_server.proofs.AtDesk.{first_turn, second_turn}
use Rattle.tests_examples_server.proofs.desks.turns.Goals as goal

pub returns-clause-report : goal.returns-clause-report
returns-clause-report c = first_turn

pub returns-clause-question : goal.returns-clause-question
returns-clause-question c = second_turn
