use Rattle.journal_recovery.proofs.Owners.{none, owners}
use Rattle.journal_recovery.proofs.laws.owners_are_one_server.Goals as goal

pub returns-clause-none : goal.returns-clause-none
returns-clause-none c = none

pub returns-clause-owners : goal.returns-clause-owners
returns-clause-owners c = owners
