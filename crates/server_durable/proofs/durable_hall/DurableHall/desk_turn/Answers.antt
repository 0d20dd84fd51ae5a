use Rattle.std.proofs.Common.{◌≡◌, ◌<◌, ◌∷◌, [], ℕ, length, IfOk, Ok, sym, ap, subst, ◌∙◌}
use Rattle.mds_request.specs.Call.{call_of}
use Rattle.mds_request.specs.Configuration.{Configuration}
use Rattle.mds_request.specs.declared.call.Call.TheVariants.{Operator as OperatorAt}
use Rattle.mds_request.specs.declared.config.Actor.TheVariants.{Operator}
use Rattle.server_admission.specs.Actor.{index_of}
use Rattle.server_state.proofs.Clients.{caller_within}
use Rattle.server_state.specs.Openings.{BeginsAt, openings_of}
use Rattle.server_state.specs.TurnItem.{Answered}
use Rattle.server_state.specs.TurnList.{IsToldTurn}
use Rattle.server_state.proofs.Openings.{begins_more}
use Rattle.server_state.specs.WholeRequest.{request_heard}
use Rattle.server_durable.specs.DurableResponse.{IsRecordedTurn}
use Rattle.server_durable.specs.Logged.{ShowsTurns}
use Rattle.server_durable.proofs.Responses.{ok_more}
use Rattle.server_durable.proofs.durable_hall.DurableHall.desk_turn.Goals as goal

pub desk_at-requires : goal.desk_at-requires
desk_at-requires g c =
    subst (λ (own : Configuration). c.args.place < length own.operators) (sym c.args.self.now.hall.configured)
    (caller_within g.K.HallName.configuration (request_heard c.args.heard) c.args.place c.args.call c.requires.resolved)

pub record_turn-requires-clause-resolved : goal.record_turn-requires-clause-resolved
record_turn-requires-clause-resolved g c =
    let here : c.deref_mut.result.now.place ≡ c.args.place = ap (λ desk. desk.place) c.deref_mut.ensures.value ∙ c.in-Some.ensures.place in
    subst (λ (place : ℕ). call_of g.K.HallName.configuration (request_heard c.args.heard) ≡ Ok (OperatorAt place c.args.call)) (sym here) c.requires.resolved

pub returns-clause-recorded : goal.returns-clause-recorded
returns-clause-recorded g c =
    let here : c.deref_mut.result.now.place ≡ c.args.place = ap (λ desk. desk.place) c.deref_mut.ensures.value ∙ c.in-Some.ensures.place in
    subst (λ (place : ℕ). IfOk c.record_turn.result (λ turn. IsRecordedTurn g.K.HallName.configuration (Operator place)
    (request_heard c.args.heard) turn.answered.answer turn.answered.stamp)) here c.record_turn.ensures.recorded

pub returns-clause-told : goal.returns-clause-told
returns-clause-told g c =
    let here : c.deref_mut.result.now.place ≡ c.args.place = ap (λ desk. desk.place) c.deref_mut.ensures.value ∙ c.in-Some.ensures.place in
    subst (λ (place : ℕ). IfOk c.record_turn.result (λ turn. ∥ IsToldTurn g.K.HallName.configuration place
    (request_heard c.args.heard) turn.answered.answer turn.turns.front.seen.log ∥₁)) here c.record_turn.ensures.told

pub returns-clause-shows : goal.returns-clause-shows
returns-clause-shows g c =
    let here : c.deref_mut.result.now.place ≡ c.args.place = ap (λ desk. desk.place) c.deref_mut.ensures.value ∙ c.in-Some.ensures.place in
    subst (λ (place : ℕ). IfOk c.record_turn.result (λ turn. ∥ ShowsTurns g.K.HallName.configuration g.N.LogName.client_of (index_of (Operator place))
    turn.turns.front.seen.log turn.answered.stamp ∥₁)) here c.record_turn.ensures.shows

pub returns-clause-begins : goal.returns-clause-begins
returns-clause-begins g c =
    let openings = openings_of c.args.self.now.hall in
    let before = c.deref_mut.result.now.turns.front.seen.log in
    let begun : BeginsAt openings c.args.place before =
    subst (λ desk. BeginsAt openings c.args.place desk.turns.front.seen.log) (sym c.deref_mut.ensures.value) c.in-Some.ensures.begins in
    ok_more c.record_turn.result (λ turn behind.
    begins_more openings c.args.place before (Answered (request_heard c.args.heard) turn.answered.answer ∷ []) turn.turns.front.seen.log begun behind)
    c.record_turn.ensures.behind
