use Rattle.std.proofs.Common.{◌≡◌, ◌<◌, length, map, Some, sym, ap, subst, ◌∙◌}
use Rattle.journal_entry.specs.Requests.{client_at}
use Rattle.mds_request.specs.Configuration.{Configuration, configuration}
use Rattle.mds_request.specs.Request.{request_of}
use Rattle.mds_request.specs.declared.config.Actor.TheVariants.{Operator}
use Rattle.server_durable.specs.Many.{AreRecordsOf}
use Rattle.server_durable.proofs.Clients.{records_of}
use Rattle.server_durable.proofs.durable_hall.DurableHall.reserve_for_all.Goals as goal

pub operator_client-client-requires : goal.operator_client-client-requires
operator_client-client-requires g c =
    let shared : configuration c.deref.result.now ≡ g.K.HallName.configuration = ap configuration c.deref.ensures ∙ c.in_ok-config.ensures ∙ c.args.self.now.hall.configured in
    subst (λ (own : Configuration). c.args.place < length own.operators) (sym shared) c.requires.place

pub returns-in-Ok : goal.returns-in-Ok
returns-in-Ok g c =
    let own = g.K.HallName.configuration in
    let requests = map request_of c.args.requests.now in
    let client = c.operator_client-client.result in
    let shared : configuration c.deref.result.now ≡ own = ap configuration c.deref.ensures ∙ c.in_ok-config.ensures ∙ c.args.self.now.hall.configured in
    let known = subst (λ (cfg : Configuration). client_at cfg (Operator c.args.place) ≡ Some client) shared c.operator_client-client.ensures in
    subst (AreRecordsOf own requests) (sym (ap (λ texts. map (λ text. text.items) texts.items) c.in-Ok.ensures ∙ c.in_ok-texts.ensures.texts))
    (records_of own c.args.place client requests known c.requires.asked c.in_ok-texts.ensures.within)
