use Rattle.std.proofs.Common.{rules, ◌≡◌, ◌++◌, ℕ, List, true, false, sym, subst, ◌∙◌}
use Rattle.journal_commit.specs.Clients.{of_client}
use Rattle.mds_desk.specs.Desk.{state_of}
use Rattle.mds_request.specs.declared.config.Actor.TheVariants.{Operator}
use Rattle.server_admission.specs.Actor.{index_of}
use Rattle.server_state.specs.TurnItem.{TurnItem}
use Rattle.server_state.specs.WholeRequest.{request_heard}
use Rattle.server_durable.specs.Logged.{AreLogged, ShowsTurns}
use Rattle.server_durable.specs.Records.{IsSettled}
use Rattle.mds_request.specs.declared.call.Call.TheVariants.{Operator as OperatorAt}
use Rattle.server_durable.specs.Owners.{OwnsRecords, appended_by}
use Rattle.server_durable.proofs.Clients.{asks}
use Rattle.server_durable.proofs.Logging.{turn_more}
use Rattle.server_durable.proofs.Owning.{owned_by}
use Rattle.server_durable.proofs.Turns.{recorded, told_last}
use Rattle.server_durable.proofs.durable_hall.DurableHall.record_turn.Goals as goal

pub settle-requires-clause-owned : goal.settle-requires-clause-owned
settle-requires-clause-owned g c =
    let configuration = g.K.HallName.configuration in
    let client_of = g.N.LogName.client_of in
    let mine = c.args.records.now in
    let who = Operator c.args.desk.now.place in
    let request = request_heard c.args.heard in
    owned_by configuration client_of who mine.own.client request c.args.reserved
    (subst (λ (p : ℕ). OwnsRecords configuration client_of (Operator p) mine.own.client) c.requires.owner mine.owned)
    (asks configuration request (OperatorAt c.args.desk.now.place c.args.call.now) c.requires.resolved) c.requires.reserved

pub settle-requires-clause-logged : goal.settle-requires-clause-logged
settle-requires-clause-logged g c =
    λ kept.
    let configuration = g.K.HallName.configuration in
    let client_of = g.N.LogName.client_of in
    let own = c.args.records.now.own in
    let all = c.carry_out-answer.new.self.turns.front.seen.log in
    let held : c.has_all.result ≡ true = search rules in
    subst (λ (status : ℕ). ∥ AreLogged configuration all (of_client client_of own.client own.texts ++ appended_by c.args.reserved status) ∥₁) (sym c.status-status.ensures)
    (turn_more configuration client_of own c.args.desk.now.turns.front.seen.log all (request_heard c.args.heard) c.carry_out-answer.result c.args.reserved
    (c.has_all.ensures held) c.requires.reserved (c.carry_out-answer.ensures.listed kept))

pub returns-in-Some-clause-recorded : goal.returns-in-Some-clause-recorded
returns-in-Some-clause-recorded g c =
    let settled = subst (λ (status : ℕ). IsSettled c.args.reserved status c.in_ok-stamp.stamp) c.status-status.ensures c.in_ok-stamp.ensures.settled in
    recorded g.K.HallName.configuration (Operator c.args.desk.now.place) (request_heard c.args.heard) c.carry_out-answer.result
    c.args.reserved c.in_ok-stamp.stamp c.carry_out-answer.ensures.replies c.requires.reserved settled

pub returns-in-Some-clause-told : goal.returns-in-Some-clause-told
returns-in-Some-clause-told g c =
    let after = c.carry_out-answer.new.self in
    let turns = c.in-Some.turns in
    let kept : after.is_lost ≡ false = search rules in
    let whole : turns.front.seen.log ≡ after.turns.front.seen.log = search rules in
    let placed : turns.place ≡ c.args.desk.now.place = search rules in
    told_last g.K.HallName.configuration c.args.desk.now.place turns.place c.args.desk.now.turns.front.seen.log turns.front.seen.log
    (request_heard c.args.heard) c.carry_out-answer.result (state_of after.desk) placed c.in-Some.ensures.turns
    (whole ∙ c.carry_out-answer.ensures.listed kept)

pub returns-in-Some-clause-shows : goal.returns-in-Some-clause-shows
returns-in-Some-clause-shows g c =
    let configuration = g.K.HallName.configuration in
    let client_of = g.N.LogName.client_of in
    let all = c.carry_out-answer.new.self.turns.front.seen.log in
    let stamp = c.in_ok-stamp.stamp in
    let whole : c.in-Some.turns.front.seen.log ≡ all = search rules in
    subst (λ (items : List TurnItem). ∥ ShowsTurns configuration client_of (index_of (Operator c.args.desk.now.place)) items stamp ∥₁) (sym whole)
    (subst (λ (p : ℕ). ∥ ShowsTurns configuration client_of (index_of (Operator p)) all stamp ∥₁) c.requires.owner c.in_ok-stamp.ensures.shows)
