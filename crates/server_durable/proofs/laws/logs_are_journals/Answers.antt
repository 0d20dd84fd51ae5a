use Rattle.server_durable.proofs.Journals.{logs_are_journals}
use Rattle.server_durable.proofs.laws.logs_are_journals.Goals as goal

pub returns : goal.returns
returns c = logs_are_journals
