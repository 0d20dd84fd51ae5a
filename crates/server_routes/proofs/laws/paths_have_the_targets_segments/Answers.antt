use Rattle.server_routes.proofs.Targets.{same_segments}
use Rattle.server_routes.proofs.laws.paths_have_the_targets_segments.Goals as goal

pub returns : goal.returns
returns c = same_segments
