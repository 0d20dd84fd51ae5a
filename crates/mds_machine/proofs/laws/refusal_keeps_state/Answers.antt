use Rattle.mds_machine.proofs.Successes.{refused_leaves}
use Rattle.mds_machine.proofs.laws.refusal_keeps_state.Goals as goal

pub returns : goal.returns
returns c = refused_leaves
