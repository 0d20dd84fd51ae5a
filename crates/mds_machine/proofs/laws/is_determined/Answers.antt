use Rattle.mds_machine.proofs.Steps.{is_determined}
use Rattle.mds_machine.proofs.laws.is_determined.Goals as goal

pub returns : goal.returns
returns c = is_determined
