use Rattle.std.proofs.Common.{◌≡◌, take}
use Rattle.std.specs.List.{list_any}
use Rattle.mds_geometry.specs.Area.{area_holds}
use Rattle.mds_geometry.specs.declared.position.Position.{Position}
use Rattle.mds_match.specs.Matching.{in_place}
use Rattle.mds_bitmaps.proofs.matcher.areas_of.Given as goal

-- the areas of the identifiers so far
abbrev pub invariant-loop-id : goal.invariant-loop-id
invariant-loop-id g l =
    (at : Position) → list_any (λ area. area_holds area.now at) l.areas.items ≡ in_place (take l.id-index l.geographies) (g.P.Places.polygons l.places) at
