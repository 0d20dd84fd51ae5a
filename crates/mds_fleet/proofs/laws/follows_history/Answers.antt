use Rattle.mds_fleet.proofs.ByHistory.{follows_history}
use Rattle.mds_fleet.proofs.laws.follows_history.Goals as goal

pub returns : goal.returns
returns c = λ limit events rows device leads. follows_history limit events rows device leads
