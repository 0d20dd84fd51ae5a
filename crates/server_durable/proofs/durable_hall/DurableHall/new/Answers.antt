use Rattle.std.proofs.Common.{sym, subst}
use Rattle.server_durable.specs.Owners.{ReadsClients}
use Rattle.server_durable.proofs.Owning.{reads_clients}
use Rattle.server_durable.proofs.durable_hall.DurableHall.new.Goals as goal

pub lock_each-requires-clause-clients : goal.lock_each-requires-clause-clients
lock_each-requires-clause-clients g c =
    let own = g.K.HallName.configuration in
    subst (ReadsClients own) (sym c.requires.clients) (reads_clients own)

pub new-author-requires-clause-clients : goal.new-author-requires-clause-clients
new-author-requires-clause-clients g c =
    let own = g.K.HallName.configuration in
    subst (ReadsClients own) (sym c.requires.clients) (reads_clients own)
