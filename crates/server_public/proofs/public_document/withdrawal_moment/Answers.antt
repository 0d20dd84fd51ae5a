use Rattle.mds_catalog.specs.Catalogue.{publications_of}
use Rattle.server_public.proofs.Moments.{is_from}
use Rattle.server_public.proofs.public_document.withdrawal_moment.Goals as goal

pub returns : goal.returns
returns c = is_from (publications_of c.args.catalogue.now) c.args.id c.withdrawal_moment.result c.withdrawal_moment.ensures
