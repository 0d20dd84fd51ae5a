-- The value of an `OperatorStanding` and of an `OperatorReplay` of the program.
use Rattle.mds_catalog.specs.Catalogue.{publications_of}
use Rattle.mds_drafts.specs.Values.{drafts_of}
use Rattle.mds_request.specs.Configuration.{configuration}
use Rattle.journal_samples.specs.Standing.{Standing}
use Rattle.journal_samples.specs.declared.standing.OperatorStanding.{OperatorStanding}

abbrev pub standing_of : OperatorStanding → Standing
standing_of s =
    record {
      configuration = configuration s.config.now;
      place = s.place;
      publications = publications_of s.catalogue;
      drafts = drafts_of s.drafts;
      rows = s.book.rows;
    }
