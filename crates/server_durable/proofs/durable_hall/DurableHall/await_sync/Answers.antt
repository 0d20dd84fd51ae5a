use Rattle.std.proofs.Common.{refl}
use Rattle.server_durable.proofs.durable_hall.DurableHall.await_sync.Goals as goal

pub returns-clause-reply : goal.returns-clause-reply
returns-clause-reply g c = (c.in_ok-marked.marked, c.args.response, c.new.ensures.reply, c.in_ok-marked.ensures, refl)
