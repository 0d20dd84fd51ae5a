use Rattle.journal_recovery.proofs.Grows.{grows_by_turn}
use Rattle.journal_recovery.proofs.laws.journal_grows_by_turn.Goals as goal

pub returns : goal.returns
returns c = grows_by_turn c.reads_the_request.ensures
