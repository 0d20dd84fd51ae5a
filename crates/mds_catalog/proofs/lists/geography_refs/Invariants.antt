use Rattle.std.proofs.Common.{◌≡◌, ◌++◌, map, take}
use Rattle.mds_geography.specs.Geography.{geography_document}
use Rattle.mds_catalog.specs.Publication.{publications_in, published_geographies, dated}
use Rattle.mds_catalog.specs.Catalogue.{lent_geography}
use Rattle.mds_catalog.proofs.lists.geography_refs.Given as goal

-- those of the batches before this one, then those of this one up to here
abbrev pub invariant-loop-geography : goal.invariant-loop-geography
invariant-loop-geography l =
    map lent_geography l.lent.items
    ≡ published_geographies (publications_in (take l.share-index l.batches)) ++ map (dated l.batch.moment) (map (λ share. geography_document share.value) (take l.geography-index l.batch.geographies.items))

-- those of the batches before this one
abbrev pub invariant-loop-share : goal.invariant-loop-share
invariant-loop-share l = map lent_geography l.lent.items ≡ published_geographies (publications_in (take l.share-index l.batches))
