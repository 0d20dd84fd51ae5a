use Rattle.std.proofs.Common.{◌≡◌, map, take}
use Rattle.mds_catalog.specs.Catalogue.{lent_geography}
use Rattle.server_public.specs.Documents.{geography_notice}
use Rattle.server_public.specs.View.{notice}
use Rattle.server_public.proofs.making.geography_documents.Given as goal

-- those of the geographies so far
abbrev pub invariant-loop-geography : goal.invariant-loop-geography
invariant-loop-geography l = map notice l.notices.items ≡ map geography_notice (map lent_geography (take l.geography-index l.geographies))
