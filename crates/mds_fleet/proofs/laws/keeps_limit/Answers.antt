use Rattle.mds_fleet.proofs.Taking.{keeps_limit}
use Rattle.mds_fleet.proofs.laws.keeps_limit.Goals as goal

pub returns : goal.returns
returns c = keeps_limit
