use Rattle.journal_laws.proofs.Kept.{stops}
use Rattle.journal_laws.proofs.laws.prefixes_are_prefixes.Goals as goal

pub returns : goal.returns
returns c = stops
