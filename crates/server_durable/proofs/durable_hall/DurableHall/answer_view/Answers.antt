use Rattle.std.proofs.Common.{rules, ◌≡◌, ◌++◌, ◌∷◌, [], true, Some, ap, subst, ◌∙◌}
use Rattle.std.specs.List.{slice_get}
use Rattle.std.specs.Option.{option_copied}
use Rattle.mds_request.specs.Configuration.{Configuration, operator}
use Rattle.mds_request.specs.Request.{Request}
use Rattle.mds_desk.specs.Desk.{state_of}
use Rattle.server_state.specs.Turn.{DeskReplies, TakesToldTurn}
use Rattle.server_state.specs.TurnItem.{Answered}
use Rattle.server_durable.specs.FleetViews.{own_request}
use Rattle.server_durable.proofs.Kept.{view_changes_nothing}
use Rattle.server_durable.proofs.Logging.{still_more}
use Rattle.server_durable.proofs.ViewReplies.{is_own_view, rows_left}
use Rattle.server_durable.proofs.durable_hall.DurableHall.answer_view.Goals as goal

pub returns-then-learn-clause-own : goal.returns-then-learn-clause-own
returns-then-learn-clause-own g c =
    let own = g.K.HallName.configuration in
    let place = c.args.desk.now.place in
    let reply = c.answer_request-answer.result in
    is_own_view own place (operator c.args.operator.now) c.args.view c.args.at reply c.requires.its
    (subst (λ (request : Request). DeskReplies own place request reply) c.own_request-request.ensures c.answer_request-answer.ensures.replies)

pub returns-clause-rows : goal.returns-clause-rows
returns-clause-rows g c =
    let desk = c.args.desk.now in
    let d = state_of desk.desk in
    let next = state_of c.answer_request-answer.new.self.desk in
    let reply = c.answer_request-answer.result in
    let placed : slice_get d.configuration.operators d.place ≡ Some (operator c.args.operator.now) =
    ap (λ (x : Configuration). slice_get x.operators d.place) desk.configured ∙ ap (slice_get g.K.HallName.configuration.operators) desk.placed ∙ c.requires.its in
    let note = option_copied c.as_ref.result in
    rows_left d next note (operator c.args.operator.now) c.args.view c.args.at reply placed
    (subst (λ (request : Request). TakesToldTurn d note request reply next) c.own_request-request.ensures c.answer_request-answer.ensures.turn)

pub returns-then-learn-clause-rows : goal.returns-then-learn-clause-rows
returns-then-learn-clause-rows g c =
    let desk = c.args.desk.now in
    let d = state_of desk.desk in
    let next = state_of c.answer_request-answer.new.self.desk in
    let reply = c.answer_request-answer.result in
    let placed : slice_get d.configuration.operators d.place ≡ Some (operator c.args.operator.now) =
    ap (λ (x : Configuration). slice_get x.operators d.place) desk.configured ∙ ap (slice_get g.K.HallName.configuration.operators) desk.placed ∙ c.requires.its in
    let note = option_copied c.as_ref.result in
    rows_left d next note (operator c.args.operator.now) c.args.view c.args.at reply placed
    (subst (λ (request : Request). TakesToldTurn d note request reply next) c.own_request-request.ensures c.answer_request-answer.ensures.turn)

pub learn-requires-clause-logged : goal.learn-requires-clause-logged
learn-requires-clause-logged g c =
    λ kept.
    let own = g.K.HallName.configuration in
    let mine = c.args.records.now.own in
    let request = own_request (operator c.args.operator.now) c.args.view c.args.at in
    let all = c.answer_request-answer.new.self.turns.front.seen.log in
    let before = c.args.desk.now.turns.front.seen.log in
    let held : c.has_all.result ≡ true = search rules in
    still_more own g.N.LogName.client_of mine before all request c.answer_request-answer.result (c.has_all.ensures held)
    (view_changes_nothing own (operator c.args.operator.now) c.args.view c.args.at)
    (subst (λ (r : Request). all ≡ before ++ Answered r c.answer_request-answer.result ∷ []) c.own_request-request.ensures (c.answer_request-answer.ensures.listed kept))
