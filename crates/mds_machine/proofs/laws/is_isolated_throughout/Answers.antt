use Rattle.mds_machine.proofs.TwoWorlds.{is_isolated_throughout}
use Rattle.mds_machine.proofs.laws.is_isolated_throughout.Goals as goal

pub returns : goal.returns
returns c = is_isolated_throughout
