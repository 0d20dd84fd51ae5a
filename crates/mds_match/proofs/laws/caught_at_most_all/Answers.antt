use Rattle.std.proofs.Common.{length}
use Rattle.mds_match.specs.Matching.{first}
use Rattle.mds_match.proofs.Groups.{groups_at_most}
use Rattle.mds_match.proofs.laws.caught_at_most_all.Goals as goal

pub returns : goal.returns
returns c policy polygons rows local = groups_at_most (λ row. first policy polygons row local) (length policy.rules) rows
