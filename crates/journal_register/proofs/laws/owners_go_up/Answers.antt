use Rattle.journal_register.proofs.Rising.{owners}
use Rattle.journal_register.proofs.laws.owners_go_up.Goals as goal

pub returns : goal.returns
returns c = owners
