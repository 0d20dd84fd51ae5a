use Rattle.std.proofs.Common.{All, subst, sym}
use Rattle.mds_fleet.specs.Fleet.{Fits}
use Rattle.mds_catalog.specs.Catalogue.{publications_of}
use Rattle.mds_catalog.specs.Publication.{publication_of}
use Rattle.mds_world.specs.Lasting.{lasting_in}
use Rattle.mds_world.proofs.Lasting.{all_fit_grown}
use Rattle.mds_world.proofs.world.World.author_call.Goals as goal

-- one more publication
pub invariant_of-self-in-Publish : goal.invariant_of-self-in-Publish
invariant_of-self-in-Publish g c =
    let now = c.args.self.now in
    record {
      limits = now.limits;
      fits = subst (λ ps. All (Fits (lasting_in ps)) now.books.items) (sym c.adopt.ensures) (all_fit_grown (publications_of now.catalogue) (publication_of c.in-Publish.batch.value) now.books.items now.fits);
    }
