use Rattle.journal_compaction.proofs.Changes.{desk_recovered_from}
use Rattle.journal_compaction.proofs.laws.desk_is_recovered_from_journal.Goals as goal

pub returns : goal.returns
returns c = desk_recovered_from c.rows_stay.ensures
