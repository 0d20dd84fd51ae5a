use Rattle.mds_fleet.proofs.ByHistory.{always_leads}
use Rattle.mds_fleet.proofs.laws.always_leads.Goals as goal

pub returns : goal.returns
returns c = λ limit events. always_leads limit events
