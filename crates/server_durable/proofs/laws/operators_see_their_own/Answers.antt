use Rattle.server_durable.proofs.Own.{told_own}
use Rattle.server_durable.proofs.laws.operators_see_their_own.Goals as goal

pub returns : goal.returns
returns c one other named renamed place publications question same alike oversight zone = told_own one other named renamed place publications question same alike oversight zone
