use Rattle.mds_machine.proofs.Histories.{goes_by_history}
use Rattle.mds_machine.proofs.laws.goes_by_history.Goals as goal

pub returns : goal.returns
returns c = goes_by_history
