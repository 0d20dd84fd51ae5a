use Rattle.mds_machine.proofs.Together.{desks_are_isolated}
use Rattle.mds_machine.proofs.desk_laws.desks_are_isolated.Goals as goal

pub returns : goal.returns
returns c = desks_are_isolated
