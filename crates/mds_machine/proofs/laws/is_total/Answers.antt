use Rattle.mds_machine.proofs.Steps.{is_total}
use Rattle.mds_machine.proofs.laws.is_total.Goals as goal

pub returns : goal.returns
returns c = is_total
