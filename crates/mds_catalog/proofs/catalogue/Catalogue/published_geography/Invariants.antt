use Rattle.std.proofs.Common.{◌≡◌, find, map, drop}
use Rattle.mds_geography.specs.Geography.{geography_document}
use Rattle.mds_catalog.specs.Publication.{is_geography_published, publications_in}
use Rattle.mds_catalog.proofs.catalogue.Catalogue.published_geography.Given as goal

-- the search in the rest finds what the one in the whole list does
abbrev pub invariant-loop-geography : goal.invariant-loop-geography
invariant-loop-geography l =
    find (is_geography_published (publications_in l.self.batches.items)) (map (λ d. d.id) (map (λ share. geography_document share.value) (drop l.geography-index l.batch.geographies.items)))
    ≡ find (is_geography_published (publications_in l.self.batches.items)) (map (λ d. d.id) (map (λ share. geography_document share.value) (l.batch.geographies.items)))
