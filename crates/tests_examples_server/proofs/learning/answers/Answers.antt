use Rattle.std.proofs.Common.{refl}
use Rattle.tests_examples_core.specs.Histories.{answer}
use Rattle.tests_examples_core.specs.Vehicles.{one_row}
use Rattle.tests_examples_server.specs.DeskStates.{desk}
use Rattle.tests_examples_server.specs.Turns.{first_front}
use Rattle.tests_examples_server.proofs.AtHall.{takes_known, learns_first}
use Rattle.tests_examples_server.proofs.learning.answers.Goals as goal

pub returns-clause-told : goal.returns-clause-told
returns-clause-told c =
    record {
      told = desk first_front one_row;
      reply = answer;
      learns = learns_first;
      turn = takes_known;
      says = record { status = refl; body = refl; json = refl };
    }

pub returns-clause-no_memory : goal.returns-clause-no_memory
returns-clause-no_memory c =
    record {
      told = desk first_front one_row;
      reply = answer;
      learns = learns_first;
      turn = takes_known;
      says = tt;
    }
