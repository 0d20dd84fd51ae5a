use Rattle.journal_register.proofs.Overtaken.{own}
use Rattle.journal_register.proofs.laws.only_the_owner_writes.Goals as goal

pub returns : goal.returns
returns c = own
