use Rattle.server_app.specs.OperatorNames.{badges_view}
use Rattle.server_durable.specs.People.{TellsOperator}
use Rattle.server_routes.specs.declared.app.Question.TheVariants.{Withdrawals}
use Rattle.server_durable.proofs.Responses.{waits_told}
use Rattle.server_durable.proofs.durable_hall.DurableHall.answer_withdrawals.Goals as goal

pub returns-in-Ok : goal.returns-in-Ok
returns-in-Ok g c =
    waits_told (TellsOperator g.K.HallName.configuration (badges_view c.args.self.now.badges) c.args.place Withdrawals) (λ s. s.reply) c.reply.result
    c.in-Ok.answered.answer c.reply.ensures.says c.in-Ok.ensures
