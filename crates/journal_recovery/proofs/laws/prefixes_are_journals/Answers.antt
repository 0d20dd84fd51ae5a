use Rattle.journal_recovery.proofs.Fronts.{fronts}
use Rattle.journal_recovery.proofs.laws.prefixes_are_journals.Goals as goal

pub returns : goal.returns
returns c = fronts
