use Rattle.std.proofs.Common.{◌≡◌, find, bytes_eq, map, drop}
use Rattle.mds_geography.specs.Geography.{geography_document}
use Rattle.mds_catalog.proofs.batch.Batch.geography.Given as goal

-- the search in the rest finds what the one in the whole list does
abbrev pub invariant-loop-geography : goal.invariant-loop-geography
invariant-loop-geography l =
    find (λ p. bytes_eq p.id l.id) (map (λ share. geography_document share.value) (drop l.geography-index l.self.geographies.items))
    ≡ find (λ p. bytes_eq p.id l.id) (map (λ share. geography_document share.value) l.self.geographies.items)
