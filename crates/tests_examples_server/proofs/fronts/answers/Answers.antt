use Rattle.tests_examples_server.proofs.AtDesk.{meaning}
use Rattle.tests_examples_server.proofs.fronts.answers.Goals as goal

pub returns : goal.returns
returns c = record { of_three = meaning.0 }
