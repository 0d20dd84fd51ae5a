use Rattle.server_durable.proofs.Journals.{journals_go_on}
use Rattle.server_durable.proofs.laws.journals_go_on.Goals as goal

pub returns : goal.returns
returns c = journals_go_on
