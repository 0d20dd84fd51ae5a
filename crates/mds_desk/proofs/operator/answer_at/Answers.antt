use Rattle.std.proofs.Common.{◌≡◌, IfSome, slice_get, sym, subst}
use Rattle.mds_fleet.specs.Fleet.{Fits}
use Rattle.mds_request.specs.Configuration.{configuration}
use Rattle.mds_request.specs.Request.{request_of}
use Rattle.mds_machine.specs.Answer.{Gives}
use Rattle.mds_machine.specs.Operator.{operator_does}
use Rattle.mds_world.specs.Lasting.{lasting_in}
use Rattle.mds_desk.proofs.operator.answer_at.Goals as goal

pub step-reply-requires-clause-fits : goal.step-reply-requires-clause-fits
step-reply-requires-clause-fits g c = subst (λ ps. Fits (lasting_in ps) c.args.book.now) (sym c.in-Some.ensures.shared) c.requires.fits

pub returns-in-Some : goal.returns-in-Some
returns-in-Some g c =
    let configured = configuration c.args.context.now.config.value in
    let rows = c.args.book.now.rows in
    record {
      left = c.leave-pane.ensures;
      answer = subst (λ reply. IfSome (slice_get configured.operators c.args.context.now.place) (λ o. Gives (Unit {0}) rows
          (operator_does configured.zone o c.args.look rows c.args.call.now (request_of c.args.request.now)) reply c.step-reply.new.book.rows)) (sym c.from.ensures)
          (subst (λ ps. IfSome (slice_get configured.operators c.args.context.now.place) (λ o. Gives (Unit {0}) rows
          (operator_does configured.zone o ps rows c.args.call.now (request_of c.args.request.now)) c.step-reply.result c.step-reply.new.book.rows)) c.in-Some.ensures.shared c.step-reply.ensures.answer);
      limit = c.step-reply.ensures.limit;
      fits = subst (λ ps. Fits (lasting_in ps) c.step-reply.new.book) c.in-Some.ensures.shared c.step-reply.ensures.fits;
    }
