use Rattle.mds_desk.proofs.Joining.{desk_takes_its_turns}
use Rattle.mds_desk.proofs.laws.desk_takes_its_turns.Goals as goal

pub returns : goal.returns
returns c = desk_takes_its_turns
