use Rattle.std.proofs.Common.{ap}
use Rattle.mds_catalog.specs.Catalogue.{publications_of}
use Rattle.mds_catalog.specs.Publication.{publication_of}
use Rattle.mds_drafts.specs.Values.{drafts_of}
use Rattle.mds_request.specs.Request.{request_of}
use Rattle.mds_world.proofs.Replies.{published}
use Rattle.mds_world.proofs.author.publish.Goals as goal

pub returns-clause-answer : goal.returns-clause-answer
returns-clause-answer c =
    published (drafts_of c.args.drafts.now) (publications_of c.args.catalogue.now) (request_of c.args.request.now) _ _ _ _ _ c.in_ok-list.ensures c.in_ok-batch.ensures.answer (ap publication_of c.in_ok-new.ensures.ok) c.revision.ensures.count c.in_ok-reply.ensures
