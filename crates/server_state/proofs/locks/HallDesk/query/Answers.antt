use Rattle.std.specs.Prelude.{option_copied}
use Rattle.mds_desk.specs.Desk.{state_of}
use Rattle.server_state.proofs.Turns.{desk_tells}
use Rattle.server_state.proofs.ListedTurns.{look_listed}
use Rattle.server_state.proofs.locks.HallDesk.query.Goals as goal

pub returns-clause-tells : goal.returns-clause-tells
returns-clause-tells g c =
    let d = c.args.self.now in
    desk_tells g.K.HallName.configuration d.place (state_of d.desk) (option_copied c.args.note) (state_of c.query_desk.new.desk) (g.T.DeskQuery.tells c.args.telling.now)
    c.query_desk.result (record { configured = d.configured; placed = d.placed }) c.query_desk.ensures.looks c.query_desk.ensures.told

pub invariant_of-self-clause-listed : goal.invariant_of-self-clause-listed
invariant_of-self-clause-listed g c =
    let d = c.args.self.now in
    look_listed g.K.HallName.configuration d.place d.is_lost d.turns.front.seen.log (option_copied c.args.note) (state_of d.desk) (state_of c.query_desk.new.desk) d.listed
    c.query_desk.ensures.looks
