use Rattle.std.specs.Mem.{manually_drop_value}
use Rattle.mds_desk.specs.Room.{room_of}
use Rattle.server_state.specs.WholeRequest.{request_heard}
use Rattle.server_durable.proofs.RoomLogging.{behind_of_room, told_of_room, will_own}
use Rattle.server_durable.proofs.room_turn.RoomTurn.take.Goals as goal

pub returns-clause-told : goal.returns-clause-told
returns-clause-told g c =
    let after = c.carry_out-answer.new.self in
    told_of_room g.K.HallName.configuration g.N.LogName.client_of (λ turns. turns.front.seen.log) after.is_lost c.args.room.now.turns.front.seen.log
    after.turns.front.seen.log (request_heard c.args.heard) c.carry_out-answer.result.0 c.turns.result (room_of (manually_drop_value after.room))
    c.turns.ensures.whole c.turns.ensures.turns c.carry_out-answer.ensures.listed

pub returns-clause-owned : goal.returns-clause-owned
returns-clause-owned g c =
    let after = c.carry_out-answer.new.self in
    will_own g.K.HallName.configuration g.N.LogName.client_of (λ turns. turns.front.seen.log) after.is_lost c.args.room.now.turns.front.seen.log
    after.turns.front.seen.log (request_heard c.args.heard) c.carry_out-answer.result.0 c.turns.result g.T.RecordPayload.reserved g.T.RecordPayload.own
    c.turns.ensures.whole c.carry_out-answer.ensures.listed c.requires.owns c.requires.reserved

pub returns-clause-behind : goal.returns-clause-behind
returns-clause-behind g c =
    let after = c.carry_out-answer.new.self in
    behind_of_room g.K.HallName.configuration g.N.LogName.client_of (λ turns. turns.front.seen.log) after.is_lost c.args.room.now.turns.front.seen.log
    after.turns.front.seen.log (request_heard c.args.heard) c.carry_out-answer.result.0 c.turns.result c.turns.ensures.whole c.carry_out-answer.ensures.listed
