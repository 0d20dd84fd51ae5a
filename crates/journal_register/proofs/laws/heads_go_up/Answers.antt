use Rattle.journal_register.proofs.Rising.{heads}
use Rattle.journal_register.proofs.laws.heads_go_up.Goals as goal

pub returns : goal.returns
returns c = heads
