use Rattle.mds_machine.proofs.Views.{shows_last_front}
use Rattle.mds_machine.proofs.desk_laws.shows_last_front.Goals as goal

pub returns : goal.returns
returns c = shows_last_front
