use Rattle.server_app.proofs.Moments.{from_is_right}
use Rattle.server_app.proofs.laws.withdrawal_moment_is_right.Goals as goal

pub returns : goal.returns
returns c = from_is_right
