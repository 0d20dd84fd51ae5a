use Rattle.journal_compaction.proofs.Changes.{rows_throughout}
use Rattle.journal_compaction.proofs.laws.rows_stay_throughout.Goals as goal

pub returns : goal.returns
returns c = rows_throughout c.rows_stay.ensures
