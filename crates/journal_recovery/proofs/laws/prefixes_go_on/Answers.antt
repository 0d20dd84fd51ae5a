use Rattle.journal_recovery.proofs.Ordered.{first_steps}
use Rattle.journal_recovery.proofs.Owners.{go_on, prefixes_have_published}
use Rattle.journal_recovery.proofs.laws.prefixes_go_on.Goals as goal

pub returns-clause-published : goal.returns-clause-published
returns-clause-published c = prefixes_have_published

pub returns-clause-beginnings : goal.returns-clause-beginnings
returns-clause-beginnings c = go_on

pub returns-clause-steps : goal.returns-clause-steps
returns-clause-steps c = first_steps
