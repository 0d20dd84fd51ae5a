use Rattle.std.proofs.Common.{◌≡◌}
use Rattle.server_state.specs.Query.{RoomTells}
use Rattle.server_durable.specs.People.{room_told}
use Rattle.server_durable.proofs.Own.{by_memory}
use Rattle.server_durable.proofs.durable_hall.DurableHall.answer_room_question.Goals as goal

pub returns : goal.returns
returns g c =
    by_memory (RoomTells g.K.HallName.configuration (λ drafts publications told. told ≡ room_told c.args.asked drafts publications)) c.query.result c.or_no_memory-answer.result
    c.or_no_memory-answer.ensures.told c.or_no_memory-answer.ensures.refused c.query.ensures.tells
