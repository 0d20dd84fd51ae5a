use Rattle.std.proofs.Common.{◌≡◌, false, take}
use Rattle.std.specs.List.{list_any}
use Rattle.mds_geometry.specs.Area.{area_holds}
use Rattle.mds_bitmaps.proofs.matcher.in_areas.Given as goal

-- no area so far holds the position
abbrev pub invariant-loop-area : goal.invariant-loop-area
invariant-loop-area l = list_any (λ area. area_holds area.now l.vehicle.position) (take l.area-index l.area-items) ≡ false
