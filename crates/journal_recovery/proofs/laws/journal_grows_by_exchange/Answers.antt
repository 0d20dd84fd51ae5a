use Rattle.journal_recovery.proofs.Grows.{grows_by_exchange}
use Rattle.journal_recovery.proofs.laws.journal_grows_by_exchange.Goals as goal

pub returns : goal.returns
returns c = grows_by_exchange c.reads_the_request.ensures
