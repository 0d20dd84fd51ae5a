use Rattle.std.proofs.Common.{Ok, Err}
use Rattle.server_durable.proofs.pending_response.PendingResponseFuture.poll.Goals as goal

pub returns-in-Pending-clause-same : goal.returns-in-Pending-clause-same
returns-in-Pending-clause-same g c (Err error) told = tt
returns-in-Pending-clause-same g c (Ok response) told = rw c.in-Some.is (c.in-Pending.ensures.same (Ok response) told)
