use Rattle.server_durable.proofs.LoggedHalls.{halls_go_on}
use Rattle.server_durable.proofs.laws.halls_go_on.Goals as goal

pub returns : goal.returns
returns c = halls_go_on
