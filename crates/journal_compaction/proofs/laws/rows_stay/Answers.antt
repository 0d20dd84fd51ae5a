use Rattle.journal_compaction.proofs.Rows.{rows_stay}
use Rattle.journal_compaction.proofs.laws.rows_stay.Goals as goal

pub returns : goal.returns
returns c = rows_stay c.compacted_row_is_the_same.ensures
