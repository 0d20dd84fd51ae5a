use Rattle.std.proofs.Common.{ap, subst, sym}
use Rattle.mds_catalog.specs.Laws.{AreLawful}
use Rattle.mds_catalog.specs.Publication.{publications_in}
use Rattle.mds_catalog.proofs.Lawful.{lawful_none}
use Rattle.mds_catalog.proofs.catalogue.Catalogue.with_room.Goals as goal

pub invariant_of-result-clause-lawful : goal.invariant_of-result-clause-lawful
invariant_of-result-clause-lawful c = subst AreLawful (sym (ap publications_in c.in_ok-with_capacity.ensures.items)) lawful_none
