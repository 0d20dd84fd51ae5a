-- One strip decides what the polygons of an index hold.
use Rattle.std.proofs.Common.{arith, ◌≡◌, ◌∙◌, ap, ℕ, ℤ, ◌+◌, ◌-◌, ◌/◌, ◌^◌, ◌<◌, ◌≤◌, false, List, [], length, get_or}
use Rattle.std.proofs.lemmas.Bool.Decides.{nat_tests}
use Rattle.std.proofs.lemmas.List.{get_or_default}
use Rattle.mds_geometry.specs.declared.position.Position.{Position}
use Rattle.mds_geometry.specs.declared.bounds.BoundingBox.{BoundingBox}
use Rattle.mds_geometry.specs.declared.scale.Scale.{Scale}
use Rattle.mds_geometry.specs.declared.start.EdgeStart.{EdgeStart}
use Rattle.mds_geometry.specs.Area.{area_holds}
use Rattle.mds_geometry.specs.Strips.{IsIndexed, any_holds, at_most, edges_at, edges_from, reaches, row_of, strip_of}
use Rattle.mds_geometry.proofs.Idle.{any_holds-edges, any_holds-filter, edges_ascend}
use Rattle.mds_geometry.proofs.Reaching.{idle_unreached}

at_most_within : (last n : ℕ) → at_most last n < last + 1
at_most_within last n = grind (arith, nat_tests)

pub strip_top : (scale : Scale) (lat : ℤ) → strip_of scale lat ≤ scale.last
strip_top scale lat = let within = at_most_within scale.last (row_of lat / 2 ^ scale.shift - scale.first) in omega arith

pub strip_within : (polygons : List (List (List Position))) (bounds : BoundingBox) (scale : Scale) (strips : List (List EdgeStart)) (at : Position)
    → IsIndexed polygons bounds scale strips → strip_of scale at.lat < length strips
strip_within polygons bounds scale strips at index =
    let within = at_most_within scale.last _ in
    let s : strip_of scale at.lat < scale.last + 1 = within in
    let whole = index.filed.whole in
    rw whole s

pub strip_tells : (polygons : List (List (List Position))) (bounds : BoundingBox) (scale : Scale) (strips : List (List EdgeStart)) (at : Position)
    → IsIndexed polygons bounds scale strips
    → any_holds at 0 false (edges_at polygons (get_or strips (strip_of scale at.lat) [])) ≡ area_holds polygons at
strip_tells polygons bounds scale strips at index =
    let s = strip_of scale at.lat in
    ap (any_holds at 0 false) (index.filed.filed s (strip_within polygons bounds scale strips at index))
    ∙ any_holds-filter at (reaches scale s) (idle_unreached scale at) 0 false (edges_from 0 polygons) (edges_ascend 0 polygons)
    ∙ any_holds-edges at 0 polygons

-- an element of a list, whatever the default beyond its end
pub strip_at : (strips : List (List EdgeStart)) (i j : ℕ) (strip : List EdgeStart) → strip ≡ get_or strips i strip → i ≡ j → j < length strips → strip ≡ get_or strips j []
strip_at strips i j strip is same within = is ∙ ap (λ k. get_or strips k strip) same ∙ get_or_default strips j strip [] within
