use Rattle.journal_compaction.proofs.Changes.{authors_entries}
use Rattle.journal_compaction.proofs.laws.authors_entries_stay.Goals as goal

pub returns : goal.returns
returns c = authors_entries
