use Rattle.server_durable.proofs.EndedHalls.{ended_halls_go_on}
use Rattle.server_durable.proofs.laws.ended_halls_go_on.Goals as goal

pub returns : goal.returns
returns c = ended_halls_go_on
