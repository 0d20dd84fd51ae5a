use Rattle.server_routes.proofs.Allowed.{refuses_unlisted}
use Rattle.server_routes.proofs.laws.refuses_unlisted.Goals as goal

pub returns : goal.returns
returns c = refuses_unlisted
