use Rattle.mds_machine.proofs.Histories.{begins_keyed}
use Rattle.mds_machine.proofs.laws.begins_keyed.Goals as goal

pub returns : goal.returns
returns c = begins_keyed
