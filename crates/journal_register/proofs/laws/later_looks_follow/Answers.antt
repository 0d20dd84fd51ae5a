use Rattle.journal_register.proofs.Rising.{looks}
use Rattle.journal_register.proofs.laws.later_looks_follow.Goals as goal

pub returns : goal.returns
returns c = looks
