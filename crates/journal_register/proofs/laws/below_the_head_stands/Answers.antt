use Rattle.journal_register.proofs.Standing.{below}
use Rattle.journal_register.proofs.laws.below_the_head_stands.Goals as goal

pub returns : goal.returns
returns c = below
