use Rattle.mds_machine.proofs.Steps.{leaves_rows}
use Rattle.mds_machine.proofs.laws.leaves_rows.Goals as goal

pub returns : goal.returns
returns c = leaves_rows
