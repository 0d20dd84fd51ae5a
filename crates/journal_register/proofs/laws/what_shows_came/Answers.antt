use Rattle.journal_register.proofs.Coming.{shown}
use Rattle.journal_register.proofs.laws.what_shows_came.Goals as goal

pub returns : goal.returns
returns c = shown
