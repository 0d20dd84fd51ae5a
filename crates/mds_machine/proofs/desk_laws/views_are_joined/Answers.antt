use Rattle.mds_machine.proofs.Views.{views_are_joined}
use Rattle.mds_machine.proofs.desk_laws.views_are_joined.Goals as goal

pub returns : goal.returns
returns c = views_are_joined
