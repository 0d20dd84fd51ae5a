use Rattle.mds_machine.proofs.Unavailable.{memory_alone_is_unavailable}
use Rattle.mds_machine.proofs.laws.memory_alone_is_unavailable.Goals as goal

pub returns : goal.returns
returns c = memory_alone_is_unavailable
