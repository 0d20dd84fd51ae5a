use Rattle.journal_register.proofs.Overtaken.{overtaken}
use Rattle.journal_register.proofs.laws.overtaken_for_good.Goals as goal

pub returns : goal.returns
returns c = overtaken
