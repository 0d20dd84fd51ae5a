use Rattle.journal_compaction.proofs.Exchanged.{goes_on_from_exchanged}
use Rattle.journal_compaction.proofs.laws.goes_on_from_exchanged.Goals as goal

pub returns : goal.returns
returns c = goes_on_from_exchanged c.exchanged_are_compacted.ensures c.goes_on_from_thinned.ensures
