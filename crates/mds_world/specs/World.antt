-- The state of the machine of a `World`.
use Rattle.std.specs.Prelude.{map}
use Rattle.mds_catalog.specs.Catalogue.{publications_of}
use Rattle.mds_drafts.specs.Values.{drafts_of}
use Rattle.mds_request.specs.Configuration.{configuration}
use Rattle.mds_machine.specs.Step.{State}
use Rattle.mds_world.specs.declared.world.World.{World}

abbrev pub state_of : {E : Type 0} → World E → State
state_of w =
    record {
      configuration = configuration w.config;
      publications = publications_of w.catalogue;
      drafts = drafts_of w.drafts;
      fleets = map (λ book. book.rows) w.books.items;
    }
