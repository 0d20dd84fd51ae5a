use Rattle.mds_machine.proofs.Together.{is_one_history}
use Rattle.mds_machine.proofs.desk_laws.is_one_history.Goals as goal

pub returns : goal.returns
returns c = is_one_history
