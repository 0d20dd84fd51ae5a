use Rattle.mds_catalog.proofs.Growing.{fold_goes_on}
use Rattle.mds_catalog.proofs.laws.fold_goes_on.Goals as goal

pub returns : goal.returns
returns c = fold_goes_on
