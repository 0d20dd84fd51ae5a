use Rattle.mds_machine.proofs.Together.{turns_are_put_in}
use Rattle.mds_machine.proofs.desk_laws.turns_are_put_in.Goals as goal

pub returns : goal.returns
returns c = turns_are_put_in
