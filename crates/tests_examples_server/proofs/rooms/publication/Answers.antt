use Rattle.tests_examples_server.proofs.AtRoom.{room_turns}
use Rattle.tests_examples_server.proofs.rooms.publication.Goals as goal

pub returns : goal.returns
returns c = record { turns = room_turns }
