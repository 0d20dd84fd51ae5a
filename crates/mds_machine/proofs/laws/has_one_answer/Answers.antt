use Rattle.mds_machine.proofs.Meaning.{has_one_answer}
use Rattle.mds_machine.proofs.laws.has_one_answer.Goals as goal

pub returns : goal.returns
returns c = has_one_answer
