use Rattle.server_routes.proofs.PastQueries.{is_of_fleets}
use Rattle.server_routes.proofs.laws.past_is_of_fleets.Goals as goal

pub returns : goal.returns
returns c = is_of_fleets
