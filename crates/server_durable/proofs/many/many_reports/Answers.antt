use Rattle.std.proofs.Common.{◌≡◌, filter, map, sym, ap, subst, ◌∙◌}
use Rattle.mds_script.specs.Input.{is_filled, lines}
use Rattle.mds_request.specs.Request.{Request, request_of}
use Rattle.server_state.specs.Openings.{openings_of}
use Rattle.server_state.specs.WholeRequest.{request_heard}
use Rattle.server_durable.specs.Many.{AreAskedBy, IsRefusedWhole, reports_of}
use Rattle.server_durable.proofs.Clients.{place_within, reports_asked}
use Rattle.server_durable.proofs.Reports.{told_halted, told_run, told_whole}
use Rattle.server_durable.proofs.many.many_reports.Goals as goal

pub answer_all-requires-clause-place : goal.answer_all-requires-clause-place
answer_all-requires-clause-place g c = place_within g.K.HallName.configuration (request_heard c.args.heard.now) c.args.place c.requires.client

pub answer_all-requires-clause-asked : goal.answer_all-requires-clause-asked
answer_all-requires-clause-asked g c =
    let request = request_heard c.args.heard.now in
    let are : map request_of c.as_slice-lent.result.now ≡ reports_of request =
    ap (map request_of) c.as_slice-lent.ensures.value ∙ c.in-Ok.ensures.reports ∙ ap reports_of c.request-request.ensures in
    subst (AreAskedBy g.K.HallName.configuration c.args.place) (sym are)
    (reports_asked g.K.HallName.configuration c.args.place request (filter is_filled (lines request.body)) c.requires.client)

pub returns-in-Err : goal.returns-in-Err
returns-in-Err g c =
    told_whole (λ s. s.reply) (λ s. s.stamp) g.K.HallName.configuration (openings_of c.args.city.now.hall) c.args.place (request_heard c.args.heard.now) c.refuse.result c.in-Err.code
    (subst (λ (r : Request). IsRefusedWhole r c.in-Err.code) c.request-request.ensures c.in-Err.ensures.refused) c.refuse.ensures

pub returns-in-Ok-answer_all : goal.returns-in-Ok-answer_all
returns-in-Ok-answer_all g c =
    let request = request_heard c.args.heard.now in
    let requests = map request_of c.as_slice-lent.result.now in
    let replies = c.in-Ok-answer_all.replies in
    let are : requests ≡ reports_of request = ap (map request_of) c.as_slice-lent.ensures.value ∙ c.in-Ok.ensures.reports ∙ ap reports_of c.request-request.ensures in
    told_run (λ s. s.reply) (λ s. s.stamp) g.K.HallName.configuration (openings_of c.args.city.now.hall) c.args.place request c.reply_to_all.result requests
    replies.answers.items replies.stamp are c.in-Ok-answer_all.ensures c.reply_to_all.ensures.says c.reply_to_all.ensures.stamp

pub returns : goal.returns
returns g c =
    told_halted (λ s. s.reply) (λ s. s.stamp) g.K.HallName.configuration (openings_of c.args.city.now.hall) c.args.place (request_heard c.args.heard.now) c.refuse_all.result
    c.in-Err-answer_all.halt c.refuse_all.ensures
