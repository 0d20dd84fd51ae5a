use Rattle.std.proofs.Common.{◌≡◌}
use Rattle.server_app.specs.OperatorNames.{badges_view}
use Rattle.server_app.specs.Whoami.{who_reply}
use Rattle.server_durable.proofs.Own.{by_memory}
use Rattle.server_durable.proofs.Responses.{waits_told}
use Rattle.server_durable.proofs.durable_hall.DurableHall.answer_whoami.Goals as goal

pub returns : goal.returns
returns g c =
    let badges = badges_view c.args.self.now.badges in
    waits_told (λ reply. reply ≡ who_reply badges c.args.client) (λ s. s.reply) c.reply.result c.or_no_memory-answer.result c.reply.ensures.says
    (by_memory (λ reply. reply ≡ who_reply badges c.args.client) c.whoami.result c.or_no_memory-answer.result c.or_no_memory-answer.ensures.told c.or_no_memory-answer.ensures.refused
    c.whoami.ensures)
