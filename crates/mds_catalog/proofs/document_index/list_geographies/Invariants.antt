use Rattle.std.proofs.Common.{◌≡◌, map, take, vec_capacity}
use Rattle.mds_geography.specs.Geography.{geography_document}
use Rattle.mds_catalog.specs.Listed.{Lists, spots_from}
use Rattle.mds_catalog.proofs.document_index.list_geographies.Given as goal

-- the geographies before this one have spots
abbrev pub invariant-loop-place : goal.invariant-loop-place
invariant-loop-place l =
    record {
      listed : Lists (λ s. s.id) l.initial.spots.items l.spots.items (spots_from l.batch 0 (map (λ share. (geography_document share.value).id) (take l.place l.geographies)));
      capacity : vec_capacity l.spots ≡ vec_capacity l.initial.spots;
    }
