use Rattle.std.specs.Prelude.{◌≡◌, ◌≤◌, ◌-◌, List, length, slice_get}
use Rattle.mds_geometry.specs.declared.position.Position.{Position}

-- the first position is the last (RFC 7946, section 3.1.6)
abbrev pub IsClosed : List Position → Type 0
IsClosed ring = slice_get ring 0 ≡ slice_get ring (length ring - 1)

-- a linear ring has four or more positions and is closed (RFC 7946, section 3.1.6)
pub record IsRing (ring : List Position) : Type 0 where
  pub long : 4 ≤ length ring
  pub closed : IsClosed ring
