use Rattle.mds_machine.proofs.Room.{room_is_history}
use Rattle.mds_machine.proofs.desk_laws.room_is_history.Goals as goal

pub returns : goal.returns
returns c = room_is_history
