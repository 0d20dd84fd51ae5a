use Rattle.mds_desk.proofs.Joining.{is_one_history_of_all}
use Rattle.mds_desk.proofs.laws.is_one_history_of_all.Goals as goal

pub returns : goal.returns
returns c = is_one_history_of_all
