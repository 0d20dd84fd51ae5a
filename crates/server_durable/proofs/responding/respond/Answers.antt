use Rattle.std.proofs.Common.{◌≡◌, ◌∙◌, ℕ, Ok, Err, IfOk, subst, rules}
use Rattle.http.specs.declared.request.Parts.{Parts}
use Rattle.server_app.specs.OperatorNames.{badges_view}
use Rattle.server_state.specs.Openings.{openings_of}
use Rattle.server_state.specs.WholeRequest.{IsHeard, request_heard}
use Rattle.server_routes.specs.declared.state.StateCall.TheVariants.{Call as OfProtocol, Reports, AuthorAsks, OperatorAsks, AsksFleet}
use Rattle.server_state.specs.Turn.{SaysOne}
use Rattle.server_durable.specs.CacheControl.{Waits}
use Rattle.server_durable.specs.FleetViews.{IsFleetReply}
use Rattle.server_durable.proofs.Ways.{answered, asker_within, client_within, called_is, reporter_is, resolved}
use Rattle.server_durable.proofs.responding.respond.Goals as goal

pub answer_call-requires-clause-resolved : goal.answer_call-requires-clause-resolved
answer_call-requires-clause-resolved g c =
    let own = g.K.HallName.configuration in
    let head = c.args.head.now in
    let heard = c.in-Ok.heard in
    let known = resolved own heard head.parts head.actor c.call.result (c.in-Ok.ensures.head ∙ c.parts.ensures) head.asks (c.call.ensures ∙ head.calls) in
    let found : c.call.result ≡ Ok (OfProtocol c.in-Ok-Call.call) = search rules in
    called_is own (request_heard heard) c.call.result known c.in-Ok-Call.call found

pub many_reports-requires-clause-client : goal.many_reports-requires-clause-client
many_reports-requires-clause-client g c =
    let own = g.K.HallName.configuration in
    let head = c.args.head.now in
    let heard = c.in-Ok.heard in
    let known = resolved own heard head.parts head.actor c.call.result (c.in-Ok.ensures.head ∙ c.parts.ensures) head.asks (c.call.ensures ∙ head.calls) in
    let found : c.call.result ≡ Ok (Reports c.in-Ok-Reports.place) = search rules in
    reporter_is own (request_heard heard) c.call.result known c.in-Ok-Reports.place found

pub answer_operator-requires : goal.answer_operator-requires
answer_operator-requires g c =
    let own = g.K.HallName.configuration in
    let head = c.args.head.now in
    let heard = c.in-Ok.heard in
    let known = resolved own heard head.parts head.actor c.call.result (c.in-Ok.ensures.head ∙ c.parts.ensures) head.asks (c.call.ensures ∙ head.calls) in
    let found : c.call.result ≡ Ok (OperatorAsks c.in-Ok-OperatorAsks.place c.in-Ok-OperatorAsks.question) = search rules in
    client_within own (request_heard heard) c.call.result known c.in-Ok-OperatorAsks.place c.in-Ok-OperatorAsks.question found

pub answer_fleet-requires-clause-within : goal.answer_fleet-requires-clause-within
answer_fleet-requires-clause-within g c =
    let own = g.K.HallName.configuration in
    let head = c.args.head.now in
    let heard = c.in-Ok.heard in
    let known = resolved own heard head.parts head.actor c.call.result (c.in-Ok.ensures.head ∙ c.parts.ensures) head.asks (c.call.ensures ∙ head.calls) in
    let found : c.call.result ≡ Ok (AsksFleet c.in-Ok-AsksFleet.question) = search rules in
    asker_within own (request_heard heard) c.call.result known c.in-Ok-AsksFleet.question found

pub returns-in-Ok-Call : goal.returns-in-Ok-Call
returns-in-Ok-Call g c =
    let own = g.K.HallName.configuration in
    let head = c.args.head.now in
    let heard = c.in-Ok.heard in
    let found : Ok (OfProtocol c.in-Ok-Call.call) ≡ head.call = search rules in
    let known = resolved own heard head.parts head.actor (Ok (OfProtocol c.in-Ok-Call.call)) (c.in-Ok.ensures.head ∙ c.parts.ensures) head.asks (found ∙ head.calls) in
    answered (λ s. s.reply) (λ s. s.stamp) own (openings_of c.args.city.now.hall) (badges_view c.args.city.now.badges) head.parts
    c.args.arrived.now c.args.at c.answer_call.result (request_heard heard) (Ok (OfProtocol c.in-Ok-Call.call))
    (subst (λ (p : Parts). IsHeard p c.args.arrived.now c.args.at (request_heard heard)) c.parts.ensures c.in-Ok.ensures.heard) known c.answer_call.ensures

pub returns-in-Ok-Reports : goal.returns-in-Ok-Reports
returns-in-Ok-Reports g c =
    let own = g.K.HallName.configuration in
    let head = c.args.head.now in
    let heard = c.in-Ok.heard in
    let found : Ok (Reports c.in-Ok-Reports.place) ≡ head.call = search rules in
    let known = resolved own heard head.parts head.actor (Ok (Reports c.in-Ok-Reports.place)) (c.in-Ok.ensures.head ∙ c.parts.ensures) head.asks (found ∙ head.calls) in
    answered (λ s. s.reply) (λ s. s.stamp) own (openings_of c.args.city.now.hall) (badges_view c.args.city.now.badges) head.parts
    c.args.arrived.now c.args.at c.many_reports.result (request_heard heard) (Ok (Reports c.in-Ok-Reports.place))
    (subst (λ (p : Parts). IsHeard p c.args.arrived.now c.args.at (request_heard heard)) c.parts.ensures c.in-Ok.ensures.heard) known c.many_reports.ensures

pub returns-in-Ok-AuthorAsks : goal.returns-in-Ok-AuthorAsks
returns-in-Ok-AuthorAsks g c =
    let own = g.K.HallName.configuration in
    let head = c.args.head.now in
    let heard = c.in-Ok.heard in
    let found : Ok (AuthorAsks c.in-Ok-AuthorAsks.question) ≡ head.call = search rules in
    let known = resolved own heard head.parts head.actor (Ok (AuthorAsks c.in-Ok-AuthorAsks.question)) (c.in-Ok.ensures.head ∙ c.parts.ensures) head.asks (found ∙ head.calls) in
    answered (λ s. s.reply) (λ s. s.stamp) own (openings_of c.args.city.now.hall) (badges_view c.args.city.now.badges) head.parts
    c.args.arrived.now c.args.at c.answer_author.result (request_heard heard) (Ok (AuthorAsks c.in-Ok-AuthorAsks.question))
    (subst (λ (p : Parts). IsHeard p c.args.arrived.now c.args.at (request_heard heard)) c.parts.ensures c.in-Ok.ensures.heard) known c.answer_author.ensures

pub returns-in-Ok-OperatorAsks : goal.returns-in-Ok-OperatorAsks
returns-in-Ok-OperatorAsks g c =
    let own = g.K.HallName.configuration in
    let head = c.args.head.now in
    let heard = c.in-Ok.heard in
    let found : Ok (OperatorAsks c.in-Ok-OperatorAsks.place c.in-Ok-OperatorAsks.question) ≡ head.call = search rules in
    let known =
    resolved own heard head.parts head.actor (Ok (OperatorAsks c.in-Ok-OperatorAsks.place c.in-Ok-OperatorAsks.question))
    (c.in-Ok.ensures.head ∙ c.parts.ensures) head.asks (found ∙ head.calls) in
    answered (λ s. s.reply) (λ s. s.stamp) own (openings_of c.args.city.now.hall) (badges_view c.args.city.now.badges) head.parts
    c.args.arrived.now c.args.at c.answer_operator.result (request_heard heard) (Ok (OperatorAsks c.in-Ok-OperatorAsks.place c.in-Ok-OperatorAsks.question))
    (subst (λ (p : Parts). IsHeard p c.args.arrived.now c.args.at (request_heard heard)) c.parts.ensures c.in-Ok.ensures.heard) known c.answer_operator.ensures

pub returns-in-Ok-AsksFleet : goal.returns-in-Ok-AsksFleet
returns-in-Ok-AsksFleet g c =
    let own = g.K.HallName.configuration in
    let badges = badges_view c.args.city.now.badges in
    let head = c.args.head.now in
    let heard = c.in-Ok.heard in
    let found : Ok (AsksFleet c.in-Ok-AsksFleet.question) ≡ head.call = search rules in
    let known = resolved own heard head.parts head.actor (Ok (AsksFleet c.in-Ok-AsksFleet.question)) (c.in-Ok.ensures.head ∙ c.parts.ensures) head.asks (found ∙ head.calls) in
    answered (λ s. s.reply) (λ s. s.stamp) own (openings_of c.args.city.now.hall) badges head.parts
    c.args.arrived.now c.args.at c.answer_fleet.result (request_heard heard) (Ok (AsksFleet c.in-Ok-AsksFleet.question))
    (subst (λ (p : Parts). IsHeard p c.args.arrived.now c.args.at (request_heard heard)) c.parts.ensures c.in-Ok.ensures.heard) known
    (subst (λ (at : ℕ). IfOk c.answer_fleet.result (λ s. Waits (SaysOne (IsFleetReply own badges at c.in-Ok-AsksFleet.question)) s.reply)) c.moment.ensures c.answer_fleet.ensures)

pub returns-in-Err-call : goal.returns-in-Err-call
returns-in-Err-call g c =
    let own = g.K.HallName.configuration in
    let head = c.args.head.now in
    let heard = c.in-Ok.heard in
    let found : Err c.in-Err-call.code ≡ head.call = search rules in
    let known = resolved own heard head.parts head.actor (Err c.in-Err-call.code) (c.in-Ok.ensures.head ∙ c.parts.ensures) head.asks (found ∙ head.calls) in
    answered (λ s. s.reply) (λ s. s.stamp) own (openings_of c.args.city.now.hall) (badges_view c.args.city.now.badges) head.parts c.args.arrived.now c.args.at c.refuse-in-Err-call.result (request_heard heard) (Err c.in-Err-call.code)
    (subst (λ (p : Parts). IsHeard p c.args.arrived.now c.args.at (request_heard heard)) c.parts.ensures c.in-Ok.ensures.heard) known c.refuse-in-Err-call.ensures
