use Rattle.std.proofs.Common.{◌≡◌, ◌++◌, map, take}
use Rattle.mds_catalog.specs.Catalogue.{served_geography}
use Rattle.mds_catalog.specs.Publication.{publications_in, published_geographies}
use Rattle.mds_catalog.proofs.lists.geography_text_refs.Given as goal

-- those of the batches before this one, then those of this one up to here
abbrev pub invariant-loop-text : goal.invariant-loop-text
invariant-loop-text l =
    map (λ t. t.now) l.lent.items
    ≡ map served_geography (published_geographies (publications_in (take l.share-index l.batches))) ++ map (λ t. t.items) (take l.text-index l.text-items)

-- those of the batches before this one
abbrev pub invariant-loop-share : goal.invariant-loop-share
invariant-loop-share l = map (λ t. t.now) l.lent.items ≡ map served_geography (published_geographies (publications_in (take l.share-index l.batches)))
