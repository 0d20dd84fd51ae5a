use Rattle.mds_catalog.proofs.Growing.{stays_over}
use Rattle.mds_catalog.proofs.laws.stays_over.Goals as goal

pub returns : goal.returns
returns c = stays_over
