use Rattle.mds_fleet.proofs.Taking.{leaves_others}
use Rattle.mds_fleet.proofs.laws.leaves_others.Goals as goal

pub returns : goal.returns
returns c = leaves_others
