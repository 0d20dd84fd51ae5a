use Rattle.journal_register.proofs.Coming.{outcomes}
use Rattle.journal_register.proofs.laws.outcomes_are_right.Goals as goal

pub returns : goal.returns
returns c = outcomes
