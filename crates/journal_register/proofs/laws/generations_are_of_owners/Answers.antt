use Rattle.journal_register.proofs.Rising.{generations}
use Rattle.journal_register.proofs.laws.generations_are_of_owners.Goals as goal

pub returns : goal.returns
returns c = generations
