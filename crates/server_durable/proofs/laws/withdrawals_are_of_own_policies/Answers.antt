use Rattle.std.proofs.Common.{refl}
use Rattle.server_durable.proofs.laws.withdrawals_are_of_own_policies.Goals as goal

pub returns : goal.returns
returns c publications operator = refl
