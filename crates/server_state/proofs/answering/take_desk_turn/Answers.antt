use Rattle.std.proofs.Common.{rules, ◌≡◌, ◌∷◌, ◌++◌, [], ℕ, false, ap, subst, ◌∙◌}
use Rattle.mds_request.specs.Call.{call_of}
use Rattle.mds_request.specs.Configuration.{configuration}
use Rattle.mds_desk.specs.Desk.{state_of}
use Rattle.server_state.specs.WholeRequest.{request_heard}
use Rattle.server_state.specs.TurnItem.{Answered}
use Rattle.server_state.proofs.Clients.{caller_within}
use Rattle.server_state.specs.Openings.{BeginsAt, openings_of}
use Rattle.server_state.proofs.ListedTurns.{is_last}
use Rattle.server_state.proofs.Openings.{begins_more}
use Rattle.server_state.proofs.answering.take_desk_turn.Goals as goal

pub desk_at-requires : goal.desk_at-requires
desk_at-requires g c =
    let hall = c.args.context.now.hall.now in
    caller_within (configuration hall.config.value) (request_heard c.args.heard) c.args.place c.args.call.now
    (ap (λ served. call_of served (request_heard c.args.heard)) hall.configured ∙ c.requires.resolved)

pub returns-clause-told : goal.returns-clause-told
returns-clause-told g c =
    let own = g.K.HallName.configuration in
    let request = request_heard c.args.heard in
    let reply = c.carry_out-reply.result in
    let turns = c.in_ok-turns.turns in
    let after = c.carry_out-reply.new.self in
    let kept : after.is_lost ≡ false = search rules in
    let whole : turns.front.seen.log ≡ after.turns.front.seen.log = search rules in
    let placed : turns.place ≡ c.args.place = search rules in
    rw (← placed) (is_last own turns.place c.deref_mut.result.now.turns.front.seen.log turns.front.seen.log request reply (state_of c.deref.result.now.desk) c.in_ok-turns.ensures.turns
    (whole ∙ c.carry_out-reply.ensures.listed kept))

pub returns-clause-begins : goal.returns-clause-begins
returns-clause-begins g c =
    let hall = c.args.context.now.hall.now in
    let turns = c.in_ok-turns.turns in
    let after = c.carry_out-reply.new.self in
    let kept : after.is_lost ≡ false = search rules in
    let whole : turns.front.seen.log ≡ after.turns.front.seen.log = search rules in
    let begun : BeginsAt (openings_of hall) c.args.place c.deref_mut.result.now.turns.front.seen.log = search rules in
    begins_more (openings_of hall) c.args.place c.deref_mut.result.now.turns.front.seen.log (Answered (request_heard c.args.heard) c.carry_out-reply.result ∷ [])
    turns.front.seen.log begun (whole ∙ c.carry_out-reply.ensures.listed kept)
