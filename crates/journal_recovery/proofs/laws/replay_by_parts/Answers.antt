use Rattle.journal_recovery.proofs.Learning.{by_parts}
use Rattle.journal_recovery.proofs.laws.replay_by_parts.Goals as goal

pub returns : goal.returns
returns c = by_parts
