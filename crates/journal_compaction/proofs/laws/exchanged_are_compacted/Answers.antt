use Rattle.journal_compaction.proofs.Exchanged.{exchanged_are_compacted}
use Rattle.journal_compaction.proofs.laws.exchanged_are_compacted.Goals as goal

pub returns : goal.returns
returns c = exchanged_are_compacted
