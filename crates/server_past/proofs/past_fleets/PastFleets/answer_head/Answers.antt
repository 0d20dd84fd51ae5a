use Rattle.std.proofs.Common.{ℕ, IfOk, subst}
use Rattle.http.specs.declared.request.Parts.{Parts}
use Rattle.server_app.specs.OperatorNames.{badges_view}
use Rattle.server_routes.specs.declared.past.PastQuestion.{PastQuestion}
use Rattle.server_state.specs.WholeRequest.{IsHeard, request_heard}
use Rattle.server_past.specs.Past.{IsPastReply}
use Rattle.server_past.specs.Response.{reply_in}
use Rattle.server_past.proofs.Replied.{heard_answer, question_is, unheard_reply}
use Rattle.server_past.proofs.past_fleets.PastFleets.answer_head.Goals as goal

pub returns-in-Ok : goal.returns-in-Ok
returns-in-Ok g c =
    let own = g.K.HallName.configuration in
    let badges = badges_view c.args.city.now.badges in
    let tells = g.P.PastJournals.tells c.args.self.now.journals in
    let head = c.args.head.now in
    let heard = c.in-Ok.heard in
    heard_answer reply_in own badges tells head.parts c.args.body.now c.args.at (request_heard heard) head.question c.answer_question.result
    (subst (λ (p : Parts). IsHeard p c.args.body.now c.args.at (request_heard heard)) c.parts.ensures c.in-Ok.ensures.heard)
    (question_is own head.parts head.actor head.question head.asks head.past)
    (subst (λ (at : ℕ). IfOk c.answer_question.result (λ answer. IsPastReply own badges tells head.question at (reply_in answer))) c.moment.ensures
    (subst (λ (q : PastQuestion). IfOk c.answer_question.result (λ answer. IsPastReply own badges tells q c.moment.result (reply_in answer))) c.question.ensures
    c.answer_question.ensures))

pub returns-in-Err : goal.returns-in-Err
returns-in-Err g c =
    unheard_reply g.K.HallName.configuration (badges_view c.args.city.now.badges) (g.P.PastJournals.tells c.args.self.now.journals) c.args.head.now.parts
    c.args.body.now _ c.args.at c.in-Err.code c.in-Err.ensures.heard c.from.ensures
