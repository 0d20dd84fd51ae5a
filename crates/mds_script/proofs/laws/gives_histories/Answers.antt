use Rattle.mds_script.proofs.Histories.{gives_histories}
use Rattle.mds_script.proofs.laws.gives_histories.Goals as goal

pub returns : goal.returns
returns c = gives_histories
