use Rattle.server_app.specs.OperatorNames.{badges_view}
use Rattle.server_state.specs.Turn.{SaysOne}
use Rattle.server_durable.specs.FleetViews.{IsFleetReply}
use Rattle.server_durable.proofs.Responses.{waits_for}
use Rattle.server_durable.proofs.fleet_views.answer_fleet.Goals as goal

pub returns-in_ok-response-in-Ok : goal.returns-in_ok-response-in-Ok
returns-in_ok-response-in-Ok g c =
    waits_for (SaysOne (IsFleetReply g.K.HallName.configuration (badges_view c.args.city.now.badges) c.args.at c.args.question)) (λ s. s.reply)
    c.respond_now.result c.in_ok-response-in-Ok.response c.respond_now.ensures (c.in-Ok.answer, c.in-Ok.ensures, c.in_ok-response-in-Ok.ensures)
