use Rattle.std.proofs.Common.{rules, Ok, Err}
use Rattle.server_http.proofs.turn.TurnFuture.poll.Goals as goal

pub returns-in-Pending-clause-same : goal.returns-in-Pending-clause-same
returns-in-Pending-clause-same c (Err error) given = tt
returns-in-Pending-clause-same c (Ok held) given =
    let wanted = c.in-Pending.ensures.same (Ok held.permits) given.0 in
    search rules
