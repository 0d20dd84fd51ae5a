use Rattle.std.proofs.Common.{◌≡◌, Ok, ap, subst, ◌∙◌}
use Rattle.mds_request.specs.Call.{call_of}
use Rattle.mds_request.specs.Configuration.{configuration}
use Rattle.server_state.specs.WholeRequest.{request_heard}
use Rattle.server_state.specs.Turn.{DeskReplies, RoomReplies}
use Rattle.server_state.proofs.Clients.{caller_within}
use Rattle.server_state.proofs.Outcomes.{desk_answered, refusal_answered, room_answered}
use Rattle.server_state.proofs.Turns.{of_ok}
use Rattle.server_state.proofs.answering.carry_out.Goals as goal

pub returns-in-Ok-Author : goal.returns-in-Ok-Author
returns-in-Ok-Author g c =
    let hall = c.args.context.now.hall.now in
    let arm = c.in-Ok-Author in
    let replies = subst (λ served. RoomReplies served (request_heard c.args.heard) c.answer_author-answer.result) hall.configured c.answer_author-answer.ensures in
    of_ok c.response.result (λ response says.
    room_answered g.K.HallName.configuration (request_heard c.args.heard) c.answer_author-answer.result response says arm.call (c.requires.resolved ∙ arm.is ∙ ap Ok arm.field-0-is) replies)
    c.response.ensures

pub returns-in-Some : goal.returns-in-Some
returns-in-Some g c =
    let arm = c.in-Ok-Operator in
    of_ok c.response-in-Ok-Operator.result (λ response says.
    desk_answered g.K.HallName.configuration (request_heard c.args.heard) c.in-Some.told.reply response says arm.place arm.call (c.requires.resolved ∙ arm.is ∙ ap Ok arm.field-0-is)
    c.in-Some.ensures.replies)
    c.response-in-Ok-Operator.ensures

pub returns-in-Err : goal.returns-in-Err
returns-in-Err g c =
    of_ok c.response-in-Err.result (λ response says.
    refusal_answered g.K.HallName.configuration (request_heard c.args.heard) c.from.result response says c.in-Err.code (c.requires.resolved ∙ c.in-Err.is) c.from.ensures)
    c.response-in-Err.ensures
