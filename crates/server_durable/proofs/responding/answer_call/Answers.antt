use Rattle.std.proofs.Common.{inl}
use Rattle.mds_request.specs.Configuration.{actor_of}
use Rattle.server_state.specs.Openings.{openings_of}
use Rattle.server_state.specs.WholeRequest.{request_heard}
use Rattle.server_durable.proofs.Responses.{ok_more, waits_more, waits_turn}
use Rattle.server_durable.proofs.responding.answer_call.Goals as goal

pub returns-in-Err : goal.returns-in-Err
returns-in-Err g c =
    ok_more c.refuse_unreserved.result (λ s. waits_more s.reply (λ response says. inl (c.in-Err.why, says))) c.refuse_unreserved.ensures.says

pub returns-in-Ok-carry_out : goal.returns-in-Ok-carry_out
returns-in-Ok-carry_out g c =
    let own = g.K.HallName.configuration in
    let request = request_heard c.args.heard in
    let answered = c.in-Ok-carry_out.answered in
    waits_turn (λ s. s.reply) (λ s. s.stamp) own (openings_of c.args.city.now.hall) (actor_of own request.token) request c.reply.result answered.answer answered.stamp c.in-Ok-carry_out.ensures.turn
    c.in-Ok-carry_out.ensures.listed c.reply.ensures.says c.reply.ensures.stamp
