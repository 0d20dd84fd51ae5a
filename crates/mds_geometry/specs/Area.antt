-- Which positions an area of several polygons holds (RFC 7946, section 3.1.7).
use Rattle.std.specs.Prelude.{Bool, List}
use Rattle.std.specs.List.{list_any}
use Rattle.mds_geometry.specs.Inside.{holds}
use Rattle.mds_geometry.specs.declared.position.Position.{Position}

-- one of the polygons holds the position
abbrev pub area_holds : List (List (List Position)) → Position → Bool
area_holds polygons position = list_any (λ rings. holds rings position) polygons
