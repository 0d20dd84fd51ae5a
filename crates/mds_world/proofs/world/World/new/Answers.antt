use Rattle.std.proofs.Common.{map, ap, ◌∙◌}
use Rattle.std.specs.FinMap.{empty}
use Rattle.mds_catalog.specs.Catalogue.{publications_of}
use Rattle.mds_drafts.specs.Values.{drafts_of}
use Rattle.mds_request.specs.Configuration.{configuration}
use Rattle.mds_world.specs.Lasting.{lasting_in}
use Rattle.mds_world.proofs.Books.{new_is}
use Rattle.mds_world.proofs.world.World.new.Goals as goal

pub invariant_of-result : goal.invariant_of-result
invariant_of-result g c =
    record {
      limits = c.in_ok-books.ensures.limits ∙ ap (λ operators. map (λ o. o.limit) operators) c.operators.ensures.all;
      fits = c.in_ok-books.ensures.fits (lasting_in (publications_of c.in_ok-catalogue.catalogue));
    }

pub returns : goal.returns
returns g c =
    new_is (configuration c.args.config) (publications_of c.in_ok-catalogue.catalogue) (drafts_of c.new-2.result).policies (drafts_of c.new-2.result).geographies _
    c.in_ok-catalogue.ensures c.new-2.ensures.policies c.new-2.ensures.geographies
    (c.in_ok-books.ensures.rows ∙ ap (λ operators. map (λ o. empty) operators) c.operators.ensures.all)
