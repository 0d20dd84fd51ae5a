use Rattle.journal_compaction.proofs.Changes.{desk_recovered}
use Rattle.journal_compaction.proofs.laws.thinned_desk_is_recovered.Goals as goal

pub returns : goal.returns
returns c = desk_recovered c.rows_stay.ensures
