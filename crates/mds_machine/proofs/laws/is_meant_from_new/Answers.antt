use Rattle.mds_machine.proofs.Isolated.{is_meant_from_new}
use Rattle.mds_machine.proofs.laws.is_meant_from_new.Goals as goal

pub returns : goal.returns
returns c = is_meant_from_new
