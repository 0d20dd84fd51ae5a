use Rattle.mds_desk.proofs.Joining.{room_takes_its_turns}
use Rattle.mds_desk.proofs.laws.room_takes_its_turns.Goals as goal

pub returns : goal.returns
returns c = room_takes_its_turns
