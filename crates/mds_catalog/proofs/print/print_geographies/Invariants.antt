use Rattle.std.proofs.Common.{◌≡◌, map, take}
use Rattle.mds_geography.specs.Geography.{geography_document}
use Rattle.mds_catalog.specs.Texts.{geography_text}
use Rattle.mds_catalog.proofs.print.print_geographies.Given as goal

-- the texts of the geographies up to here
abbrev pub invariant-loop-geography : goal.invariant-loop-geography
invariant-loop-geography l =
    map (λ t. t.items) l.texts.items ≡ map (geography_text l.moment) (map (λ share. geography_document share.value) (take l.geography-index l.geographies))
