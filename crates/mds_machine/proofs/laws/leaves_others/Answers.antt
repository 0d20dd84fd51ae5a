use Rattle.mds_machine.proofs.Steps.{leaves_others}
use Rattle.mds_machine.proofs.laws.leaves_others.Goals as goal

pub returns : goal.returns
returns c = leaves_others
