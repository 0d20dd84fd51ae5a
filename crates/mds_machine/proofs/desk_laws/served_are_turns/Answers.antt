use Rattle.mds_machine.proofs.Runs.{served_are_turns}
use Rattle.mds_machine.proofs.desk_laws.served_are_turns.Goals as goal

pub returns : goal.returns
returns c = served_are_turns
