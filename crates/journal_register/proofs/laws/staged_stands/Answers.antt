use Rattle.journal_register.proofs.Standing.{staged}
use Rattle.journal_register.proofs.laws.staged_stands.Goals as goal

pub returns : goal.returns
returns c = staged
