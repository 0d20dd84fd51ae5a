use Rattle.server_routes.proofs.Allowed.{lists_calls}
use Rattle.server_routes.proofs.laws.lists_calls.Goals as goal

pub returns : goal.returns
returns c = lists_calls
