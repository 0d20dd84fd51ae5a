use Rattle.server_app.specs.OperatorNames.{badges_view}
use Rattle.server_state.specs.Turn.{SaysOne}
use Rattle.server_durable.proofs.Responses.{waits_for}
use Rattle.server_past.specs.Response.{IsPastAnswer, reply_in}
use Rattle.server_past.proofs.past_fleets.PastFleets.respond.Goals as goal

pub returns : goal.returns
returns g c =
    waits_for
    (SaysOne (IsPastAnswer g.K.HallName.configuration (badges_view c.args.city.now.badges) (g.P.PastJournals.tells c.args.self.now.journals)
    c.args.head.now.parts c.args.body.now c.args.at))
    (λ s. s.reply) c.respond_now.result c.in_ok-response.response c.respond_now.ensures
    (reply_in c.in_ok-answer.answer, c.in_ok-answer.ensures, c.in_ok-response.ensures)
