use Rattle.std.proofs.Common.{rules, ◌≡◌, true, length, Some, Ok, sym, ap, subst, ◌∙◌}
use Rattle.journal_entry.specs.Requests.{client_at}
use Rattle.journal_laws.specs.Persisted.{may_change}
use Rattle.mds_request.specs.Configuration.{Configuration, configuration}
use Rattle.server_state.specs.Client.{IsWithin}
use Rattle.server_state.specs.WholeRequest.{request_heard}
use Rattle.server_durable.specs.Records.{IsRecordable, caller_of, record_by}
use Rattle.server_durable.proofs.Clients.{caller_within, record_of_call}
use Rattle.server_durable.proofs.durable_hall.DurableHall.reserve_for.Goals as goal

pub client_of-client-requires : goal.client_of-client-requires
client_of-client-requires g c =
    let shared : configuration c.deref.result.now ≡ g.K.HallName.configuration = ap configuration c.deref.ensures ∙ c.in_ok-config.ensures ∙ c.args.self.now.hall.configured in
    subst (λ (own : Configuration). IsWithin (length own.operators) (caller_of c.args.call.now)) (sym shared)
    (caller_within g.K.HallName.configuration (request_heard c.args.heard.now) c.args.call.now c.requires)

pub returns-in-Ok : goal.returns-in-Ok
returns-in-Ok g c =
    let own = g.K.HallName.configuration in
    let request = request_heard c.args.heard.now in
    let client = c.client_of-client.result in
    let shared : configuration c.deref.result.now ≡ own = ap configuration c.deref.ensures ∙ c.in_ok-config.ensures ∙ c.args.self.now.hall.configured in
    let changes : may_change (Ok c.args.call.now) ≡ true = search rules in
    let its = record_of_call own request c.args.call.now client c.in-Ok.place.text.items c.requires
    (subst (λ (cfg : Configuration). client_at cfg (caller_of c.args.call.now) ≡ Some client) shared c.client_of-client.ensures)
    (ap (λ text. text.items) c.in-Ok.ensures ∙ c.in_ok-text.ensures.text ∙ ap (record_by client) c.request-request.ensures)
    (subst IsRecordable c.request-request.ensures c.in_ok-text.ensures.within) in
    (ap may_change c.requires ∙ changes, its)
