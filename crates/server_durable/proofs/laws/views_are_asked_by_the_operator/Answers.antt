use Rattle.server_durable.proofs.OwnTokens.{asked_by_operator}
use Rattle.server_durable.proofs.laws.views_are_asked_by_the_operator.Goals as goal

pub returns : goal.returns
returns c = asked_by_operator
