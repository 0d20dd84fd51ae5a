use Rattle.std.proofs.Common.{refl, sym, ap, ◌∙◌}
use Rattle.std.specs.Prelude.{Ok, option_copied}
use Rattle.mds_request.specs.Call.{call_of}
use Rattle.mds_request.specs.declared.call.Call.TheVariants.{Operator}
use Rattle.mds_desk.specs.Desk.{state_of}
use Rattle.server_state.specs.WholeRequest.{request_heard}
use Rattle.server_state.proofs.Turns.{desk_replies}
use Rattle.mds_request.specs.Request.{request_of}
use Rattle.server_state.proofs.ListedTurns.{none_lost, turn_listed}
use Rattle.server_state.proofs.locks.HallDesk.carry_out.Goals as goal

pub take_call_turn-reply-requires-clause-resolved : goal.take_call_turn-reply-requires-clause-resolved
take_call_turn-reply-requires-clause-resolved g c =
    let d = c.args.self.now in
    ap (λ request. call_of (state_of d.desk).configuration request) c.request-request.ensures
    ∙ ap (λ configuration. call_of configuration (request_heard c.args.heard)) d.configured
    ∙ c.requires.resolved
    ∙ ap (λ place. Ok (Operator place c.args.call.now)) (sym d.placed)

pub returns-clause-replies : goal.returns-clause-replies
returns-clause-replies g c =
    let d = c.args.self.now in
    desk_replies g.K.HallName.configuration d.place (state_of d.desk) (option_copied c.args.note) (request_heard c.args.heard) c.take_call_turn-reply.result
    (state_of c.take_call_turn-reply.new.desk) (record { configured = d.configured; placed = d.placed }) (rw c.request-request.ensures at c.take_call_turn-reply.ensures.turn)

pub invariant_of-self-clause-listed : goal.invariant_of-self-clause-listed
invariant_of-self-clause-listed g c =
    let d = c.args.self.now in
    turn_listed g.K.HallName.configuration d.place d.is_lost c.add.result _ d.turns.front.seen.log c.add.new.self.front.seen.log (option_copied c.args.note)
    (request_of c.request-request.result) c.take_call_turn-reply.result (state_of d.desk) (state_of c.take_call_turn-reply.new.desk) d.listed c.take_call_turn-reply.ensures.turn refl
    c.add.ensures.added

pub returns-clause-listed : goal.returns-clause-listed
returns-clause-listed g c =
    λ kept. rw c.request-request.ensures at (c.add.ensures.added (none_lost g.K.HallName.configuration c.args.self.now.place c.args.self.now.is_lost c.add.result _ refl kept).1)
