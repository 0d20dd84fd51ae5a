use Rattle.journal_recovery.proofs.Persisted.{of_one_server}
use Rattle.journal_recovery.proofs.laws.prefixes_are_of_one_server.Goals as goal

pub returns : goal.returns
returns c = of_one_server c.changes_stand_apart.ensures c.desk_is_recovered.ensures
