use Rattle.journal_register.proofs.Rising.{revisions}
use Rattle.journal_register.proofs.laws.revisions_go_up.Goals as goal

pub returns : goal.returns
returns c = revisions
