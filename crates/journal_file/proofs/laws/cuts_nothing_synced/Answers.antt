use Rattle.journal_file.proofs.Written.{synced_within}
use Rattle.journal_file.proofs.laws.cuts_nothing_synced.Goals as goal

pub returns : goal.returns
returns c = synced_within
