use Rattle.std.specs.Prelude.{option_copied}
use Rattle.mds_request.specs.Request.{request_of}
use Rattle.mds_desk.specs.Desk.{state_of}
use Rattle.server_state.proofs.Turns.{desk_replies}
use Rattle.std.proofs.Common.{refl}
use Rattle.server_state.proofs.ListedTurns.{none_lost, turn_listed}
use Rattle.server_state.proofs.locks.HallDesk.answer_request.Goals as goal

pub returns-clause-replies : goal.returns-clause-replies
returns-clause-replies g c =
    let d = c.args.self.now in
    desk_replies g.K.HallName.configuration d.place (state_of d.desk) (option_copied c.args.note) (request_of c.args.request.now) c.take_turn-reply.result
    (state_of c.take_turn-reply.new.desk) (record { configured = d.configured; placed = d.placed }) c.take_turn-reply.ensures.turn

pub invariant_of-self-clause-listed : goal.invariant_of-self-clause-listed
invariant_of-self-clause-listed g c =
    let d = c.args.self.now in
    turn_listed g.K.HallName.configuration d.place d.is_lost c.add.result _ d.turns.front.seen.log c.add.new.self.front.seen.log (option_copied c.args.note)
    (request_of c.args.request.now) c.take_turn-reply.result (state_of d.desk) (state_of c.take_turn-reply.new.desk) d.listed c.take_turn-reply.ensures.turn refl c.add.ensures.added

pub returns-clause-listed : goal.returns-clause-listed
returns-clause-listed g c = λ kept. c.add.ensures.added (none_lost g.K.HallName.configuration c.args.self.now.place c.args.self.now.is_lost c.add.result _ refl kept).1
