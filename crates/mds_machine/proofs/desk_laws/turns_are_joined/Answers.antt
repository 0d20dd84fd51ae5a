use Rattle.mds_machine.proofs.Runs.{turns_are_joined}
use Rattle.mds_machine.proofs.desk_laws.turns_are_joined.Goals as goal

pub returns : goal.returns
returns c = turns_are_joined
