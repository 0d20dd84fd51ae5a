use Rattle.std.proofs.Common.{◌≡◌}
use Rattle.server_state.specs.Query.{RoomTells}
use Rattle.server_durable.specs.People.{room_told}
use Rattle.server_durable.proofs.Responses.{waits_told}
use Rattle.server_durable.proofs.durable_hall.DurableHall.respond_of_room.Goals as goal

pub returns : goal.returns
returns g c =
    waits_told (RoomTells g.K.HallName.configuration (λ drafts publications told. told ≡ room_told c.args.asked drafts publications)) (λ s. s.reply) c.reply.result
    c.answer_room_question-answered.result.answer c.reply.ensures.says c.answer_room_question-answered.ensures
