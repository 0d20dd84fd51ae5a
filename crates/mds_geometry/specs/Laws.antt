use Rattle.std.specs.Prelude.{◌≡◌, true, List, ◌∷◌, ◌++◌, reverse}
use Rattle.std.specs.List.{Contains}
use Rattle.mds_geometry.specs.declared.position.Position.{Position}
use Rattle.mds_geometry.specs.Inside.{holds}
use Rattle.mds_geometry.specs.Ring.{IsRing}

-- a polygon holds the same positions with any one of its rings reversed (RFC 7946, section 3.1.6:
-- parsers shouldn't reject a ring for its winding)
abbrev pub WindingIsFree : Type 0
WindingIsFree =
    (before after : List (List Position)) (ring : List Position) (at : Position)
    → holds (before ++ reverse ring ∷ after) at ≡ holds (before ++ ring ∷ after) at

-- a polygon holds every vertex of every one of its rings
abbrev pub HoldsVertices : Type 0
HoldsVertices =
    (rings : List (List Position)) (ring : List Position) (vertex : Position)
    → Contains rings ring → IsRing ring → Contains ring vertex → holds rings vertex ≡ true
