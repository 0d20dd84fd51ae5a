use Rattle.mds_request.specs.declared.call.Call.TheVariants.{Author as ByAuthor}
use Rattle.mds_request.specs.declared.config.Actor.TheVariants.{Author}
use Rattle.server_state.specs.WholeRequest.{request_heard}
use Rattle.server_durable.proofs.Clients.{asks}
use Rattle.server_durable.proofs.Owning.{owned_by}
use Rattle.server_durable.proofs.durable_hall.DurableHall.room_turn_of.Goals as goal

pub room_turn-requires-clause-owned : goal.room_turn-requires-clause-owned
room_turn-requires-clause-owned g c =
    let configuration = g.K.HallName.configuration in
    let mine = c.in-Some.log.records in
    let request = request_heard c.args.heard in
    owned_by configuration g.N.LogName.client_of Author mine.own.client request c.args.reserved mine.owned
    (asks configuration request (ByAuthor c.args.call) c.requires.resolved) c.requires.reserved
