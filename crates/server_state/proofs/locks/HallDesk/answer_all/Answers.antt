use Rattle.std.specs.Prelude.{map, option_copied}
use Rattle.mds_request.specs.Request.{request_of}
use Rattle.mds_desk.specs.Desk.{state_of}
use Rattle.server_state.proofs.Turns.{desk_runs}
use Rattle.std.proofs.Common.{refl}
use Rattle.server_state.proofs.ListedTurns.{run_added, run_listed}
use Rattle.server_state.proofs.locks.HallDesk.answer_all.Goals as goal

pub returns-clause-replies : goal.returns-clause-replies
returns-clause-replies g c =
    let d = c.args.self.now in
    desk_runs (λ replies. replies.items) g.K.HallName.configuration d.place (state_of d.desk) (option_copied c.args.note) (map request_of c.args.requests.now)
    c.take_run-replies.result (state_of c.take_run-replies.new.desk) (record { configured = d.configured; placed = d.placed }) c.take_run-replies.ensures.run

pub invariant_of-self-clause-listed : goal.invariant_of-self-clause-listed
invariant_of-self-clause-listed g c =
    let d = c.args.self.now in
    run_listed g.K.HallName.configuration d.place (λ replies. replies.items) d.is_lost c.list_run.result _ d.turns.front.seen.log c.list_run.new.turns.front.seen.log
    (option_copied c.args.note) (map request_of c.args.requests.now) c.take_run-replies.result (state_of d.desk) (state_of c.take_run-replies.new.desk) d.listed
    c.take_run-replies.ensures.run c.take_run-replies.ensures.unasked refl c.list_run.ensures.added

pub returns-clause-listed : goal.returns-clause-listed
returns-clause-listed g c =
    let d = c.args.self.now in
    run_added g.K.HallName.configuration d.place (λ replies. replies.items) d.is_lost c.list_run.result _ d.turns.front.seen.log c.list_run.new.turns.front.seen.log
    (map request_of c.args.requests.now) c.take_run-replies.result refl c.list_run.ensures.added
