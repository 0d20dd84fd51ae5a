use Rattle.mds_machine.proofs.Runs.{turns_are_meant}
use Rattle.mds_machine.proofs.desk_laws.turns_are_meant.Goals as goal

pub returns : goal.returns
returns c = turns_are_meant
