use Rattle.journal_samples.proofs.Servers.{served}
use Rattle.journal_samples.proofs.laws.stands_as_served.Goals as goal

pub returns : goal.returns
returns c = served
