use Rattle.mds_machine.proofs.Isolated.{is_meant_throughout}
use Rattle.mds_machine.proofs.laws.is_meant_throughout.Goals as goal

pub returns : goal.returns
returns c = is_meant_throughout
