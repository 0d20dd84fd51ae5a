use Rattle.server_durable.proofs.ViewReplies.{by_own_requests, by_own_rows}
use Rattle.server_durable.proofs.laws.views_are_of_their_operator.Goals as goal

pub returns-clause-rows : goal.returns-clause-rows
returns-clause-rows c = by_own_rows

pub returns-clause-requests : goal.returns-clause-requests
returns-clause-requests c = by_own_requests
