use Rattle.journal_recovery.proofs.Answered.{answered}
use Rattle.journal_recovery.proofs.laws.replayed_are_turns.Goals as goal

pub returns : goal.returns
returns c = answered
