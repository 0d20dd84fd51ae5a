use Rattle.mds_fleet.proofs.ByHistory.{leads_on}
use Rattle.mds_fleet.proofs.laws.leads_on.Goals as goal

pub returns : goal.returns
returns c = λ limit before event rows after leads. leads_on limit before event rows after leads
