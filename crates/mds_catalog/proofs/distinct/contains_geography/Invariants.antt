use Rattle.std.proofs.Common.{◌≡◌, map, drop}
use Rattle.mds_geography.specs.Geography.{geography_document}
use Rattle.mds_catalog.specs.Publication.{is_among}
use Rattle.mds_catalog.proofs.distinct.contains_geography.Given as goal

-- the identifier is in the rest where it is in the whole list
abbrev pub invariant-loop-geography : goal.invariant-loop-geography
invariant-loop-geography l =
    is_among (map (λ d. d.id) (map (λ share. geography_document share.value) (drop l.geography-index l.geographies))) l.id
    ≡ is_among (map (λ d. d.id) (map (λ share. geography_document share.value) l.geographies)) l.id
