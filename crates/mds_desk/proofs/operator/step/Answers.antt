use Rattle.std.proofs.Common.{◌≡◌, IfSome, slice_get, subst}
use Rattle.mds_catalog.specs.Catalogue.{publications_of}
use Rattle.mds_request.specs.Configuration.{configuration}
use Rattle.mds_request.specs.Request.{request_of}
use Rattle.mds_request.specs.declared.config.Config.{Config}
use Rattle.mds_machine.specs.Answer.{Gives}
use Rattle.mds_machine.specs.Operator.{operator_does}
use Rattle.mds_desk.proofs.operator.step.Goals as goal

pub returns : goal.returns
returns g c =
    let place = c.args.context.now.place in
    let rows = c.args.book.now.rows in
    let published = publications_of c.args.catalogue.now in
    let same : c.deref.result.now ≡ c.args.context.now.config.value = cc in
    record {
      answer = subst (λ (config : Config). IfSome (slice_get (configuration config).operators place) (λ o. Gives (Unit {0}) rows
          (operator_does (configuration config).zone o published rows c.args.call.now (request_of c.args.request.now)) c.indexed_operator_step.result c.indexed_operator_step.new.book.rows)) same
          c.indexed_operator_step.ensures.answer;
      limit = c.indexed_operator_step.ensures.limit;
      fits = c.indexed_operator_step.ensures.fits;
    }
