use Rattle.mds_catalog.proofs.Growing.{stays_published}
use Rattle.mds_catalog.proofs.laws.stays_published.Goals as goal

pub returns : goal.returns
returns c = stays_published
