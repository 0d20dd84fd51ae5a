use Rattle.server_routes.proofs.Apart.{are_apart}
use Rattle.server_routes.proofs.laws.tables_are_apart.Goals as goal

pub returns : goal.returns
returns c = are_apart
