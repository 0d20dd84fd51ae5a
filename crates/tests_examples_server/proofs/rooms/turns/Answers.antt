use Rattle.std.proofs.Common.{inr, refl}
use Rattle.tests_examples_server.proofs.AtRoom.{calls_for_square, square_turn}
use Rattle.tests_examples_server.proofs.rooms.turns.Goals as goal

pub returns-clause-put : goal.returns-clause-put
returns-clause-put c = square_turn

pub returns-clause-memory : goal.returns-clause-memory
returns-clause-memory c = inr ((_, calls_for_square), refl, refl)
