use Rattle.server_durable.proofs.Left.{told_room_turns_are_left, told_turns_are_left}
use Rattle.server_durable.proofs.laws.told_turns_are_left.Goals as goal

pub returns-clause-desk : goal.returns-clause-desk
returns-clause-desk c = told_turns_are_left

pub returns-clause-room : goal.returns-clause-room
returns-clause-room c = told_room_turns_are_left
