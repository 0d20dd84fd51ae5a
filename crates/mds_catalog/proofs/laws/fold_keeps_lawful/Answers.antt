use Rattle.mds_catalog.proofs.Growing.{fold_keeps_lawful}
use Rattle.mds_catalog.proofs.laws.fold_keeps_lawful.Goals as goal

pub returns : goal.returns
returns c = fold_keeps_lawful
