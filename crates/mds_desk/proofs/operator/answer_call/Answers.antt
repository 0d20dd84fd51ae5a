use Rattle.std.proofs.Common.{◌≡◌, IfSome, slice_get, sym, subst}
use Rattle.mds_catalog.specs.Catalogue.{publications_of}
use Rattle.mds_fleet.specs.Fleet.{Fits}
use Rattle.mds_request.specs.Configuration.{configuration}
use Rattle.mds_request.specs.Request.{request_of}
use Rattle.mds_machine.specs.Answer.{Gives}
use Rattle.mds_machine.specs.Operator.{operator_does}
use Rattle.mds_desk.specs.CacheKey.{AnswersOperator, IsFound, IsReplyTo}
use Rattle.mds_world.specs.Lasting.{lasting_in}
use Rattle.mds_desk.proofs.Shelving.{operator_found, operator_laid, operator_told}
use Rattle.mds_desk.proofs.operator.answer_call.Goals as goal

pub returns-in-Some : goal.returns-in-Some
returns-in-Some g c =
    let configured = configuration c.args.context.now.config.value in
    let asked = c.operator_key-asked.result in
    record {
      answer = operator_found configured.zone c.args.look.now c.operator.result c.args.call.now c.args.book.now.rows (request_of c.args.request.now)
          (slice_get configured.operators c.args.context.now.place) asked c.in-Some.body c.from_cached.result c.operator.ensures
          (subst (λ ps. IfSome asked (AnswersOperator ps c.operator.result c.args.call.now)) c.catalogue-catalogue.ensures.publications c.operator_key-asked.ensures)
          (subst (λ ps. IsFound ps asked c.in-Some.body) c.note-note.ensures c.in-Some.ensures) c.from_cached.ensures;
      limit = cc;
      fits = c.requires.fits;
    }

pub step-reply-requires-clause-fits : goal.step-reply-requires-clause-fits
step-reply-requires-clause-fits g c =
    subst (λ ps. Fits (lasting_in ps) c.args.book.now) (sym c.catalogue-catalogue.ensures.publications) c.requires.fits

pub answer-requires : goal.answer-requires
answer-requires g c =
    let configured = configuration c.args.context.now.config.value in
    let asked = c.operator_key-asked.result in
    let call = c.args.call.now in
    let place = c.args.context.now.place in
    let rows = c.args.book.now.rows in
    let request = request_of c.args.request.now in
    let reply = c.step-reply.result in
    let after = c.step-reply.new.book.rows in
    let made : IfSome (slice_get configured.operators place) (λ o. Gives (Unit {0}) rows (operator_does configured.zone o (publications_of c.catalogue-catalogue.result.now) rows call request) reply after) =
    c.step-reply.ensures.answer in
    let gives : IfSome (slice_get configured.operators place) (λ o. Gives (Unit {0}) rows (operator_does configured.zone o c.args.look.now rows call request) reply after) =
    subst (λ ps. IfSome (slice_get configured.operators place) (λ o. Gives (Unit {0}) rows (operator_does configured.zone o ps rows call request) reply after)) c.catalogue-catalogue.ensures.publications made in
    subst (λ ps. IfSome asked (λ key. IsReplyTo ps key reply)) (sym c.note-note.ensures)
    (operator_told configured.zone c.args.look.now c.operator.result call rows request (slice_get configured.operators place) asked reply after c.operator.ensures
    (subst (λ ps. IfSome asked (AnswersOperator ps c.operator.result call)) c.catalogue-catalogue.ensures.publications c.operator_key-asked.ensures) gives)

pub returns : goal.returns
returns g c =
    let configured = configuration c.args.context.now.config.value in
    let asked = c.operator_key-asked.result in
    let call = c.args.call.now in
    let place = c.args.context.now.place in
    let rows = c.args.book.now.rows in
    let request = request_of c.args.request.now in
    let reply = c.step-reply.result in
    let after = c.step-reply.new.book.rows in
    let made : IfSome (slice_get configured.operators place) (λ o. Gives (Unit {0}) rows (operator_does configured.zone o (publications_of c.catalogue-catalogue.result.now) rows call request) reply after) =
    c.step-reply.ensures.answer in
    let gives : IfSome (slice_get configured.operators place) (λ o. Gives (Unit {0}) rows (operator_does configured.zone o c.args.look.now rows call request) reply after) =
    subst (λ ps. IfSome (slice_get configured.operators place) (λ o. Gives (Unit {0}) rows (operator_does configured.zone o ps rows call request) reply after)) c.catalogue-catalogue.ensures.publications made in
    record {
      answer = operator_laid configured.zone c.args.look.now c.operator.result call rows request (slice_get configured.operators place) asked reply c.answer.result after c.operator.ensures
          (subst (λ ps. IfSome asked (AnswersOperator ps c.operator.result call)) c.catalogue-catalogue.ensures.publications c.operator_key-asked.ensures) gives c.answer.ensures;
      limit = c.step-reply.ensures.limit;
      fits = subst (λ ps. Fits (lasting_in ps) c.step-reply.new.book) c.catalogue-catalogue.ensures.publications c.step-reply.ensures.fits;
    }
