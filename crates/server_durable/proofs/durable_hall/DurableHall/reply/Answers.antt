use Rattle.server_state.specs.Response.{Says}
use Rattle.server_durable.proofs.Responses.{waits_for}
use Rattle.server_durable.proofs.durable_hall.DurableHall.reply.Goals as goal

pub returns-clause-says : goal.returns-clause-says
returns-clause-says g c =
    waits_for (λ plain. Says plain c.args.answered.answer) (λ s. s.reply) c.await_sync.result c.in_ok-response.response c.await_sync.ensures.reply c.in_ok-response.ensures
