use Rattle.std.proofs.Common.{sym, ◌∙◌}
use Rattle.mds_policy.specs.Policy.{policy_document}
use Rattle.mds_catalog.specs.Catalogue.{publications_of}
use Rattle.mds_world.specs.Lasting.{lasting_in}
use Rattle.mds_world.proofs.Lasting.{is_published}
use Rattle.mds_world.proofs.compliance.index_verdicts.Goals as goal

pub verdicts-requires : goal.verdicts-requires
verdicts-requires c =
    let publications = publications_of c.args.catalogue.now in
    (lasting_in publications, c.requires.fits, is_published publications (policy_document c.args.policy.now) c.requires.published (sym c.is_placed.ensures ∙ c.if-not-is_placed.false))
