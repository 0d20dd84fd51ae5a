-- Bands, bounding boxes, and blocks of a ring's edges.
use Rattle.std.specs.Prelude.{◌≡◌, ℕ, ◌-◌, length, suc, [], ◌∷◌, take, drop, true, Bool, ◌&&◌, int_le, ℤ, List}
use Rattle.std.specs.Int.{div_ceil}
use Rattle.std.specs.List.{All}
use Rattle.mds_geometry.specs.Ring.{IsRing}
use Rattle.mds_geometry.specs.declared.position.Position.{Position}
use Rattle.mds_geometry.specs.declared.band.Band.{Band}
use Rattle.mds_geometry.specs.declared.bounds.BoundingBox.{BoundingBox}

-- a coordinate lies in a band, its ends included
abbrev pub lies_in : Band → ℤ → Bool
lies_in band x = int_le band.least x && int_le x band.greatest

-- the wide band holds what the narrow one holds
abbrev pub IsWider : Band → Band → Type 0
IsWider narrow wide = (x : ℤ) → lies_in narrow x ≡ true → lies_in wide x ≡ true

-- a position lies within bounds, their borders included
abbrev pub is_within : BoundingBox → Position → Bool
is_within bounds at = lies_in bounds.lng at.lng && lies_in bounds.lat at.lat

-- the wide bounds hold what the narrow ones hold
abbrev pub AreWider : BoundingBox → BoundingBox → Type 0
AreWider narrow wide = (at : Position) → is_within narrow at ≡ true → is_within wide at ≡ true

-- a linear ring lies within bounds
pub record IsBounded (bounds : BoundingBox) (ring : List Position) : Type 0 where
  pub linear : IsRing ring
  pub within : All (λ at. is_within bounds at ≡ true) ring

-- all rings of some polygons lie within bounds
abbrev pub AreBounded : BoundingBox → List (List (List Position)) → Type 0
AreBounded bounds polygons = All (All (IsBounded bounds)) polygons

-- the latitudes of all these positions lie in a band
abbrev pub AreIn : Band → List Position → Type 0
AreIn band positions = All (λ p. lies_in band p.lat ≡ true) positions

-- Each band holds the latitudes of its block: of `size` neighbouring edges, that is of the positions at their ends. A
-- block ends with the position with which the next one begins.
abbrev pub AreBanded : ℕ → List Band → List Position → Type 0
AreBanded size [] positions = Unit {0}
AreBanded size (band ∷ bands) positions = AreIn band (take (suc size) positions) × AreBanded size bands (drop size positions)

-- the number of edges of a block: that of a ring's edges divided by 16, rounded up
abbrev pub edges_of_a_block : List Position → ℕ
edges_of_a_block ring = div_ceil (length ring - 1) 16

-- a linear ring with the bands of its blocks
pub record IsBanded (size : ℕ) (bands : List Band) (ring : List Position) : Type 0 where
  pub linear : IsRing ring
  pub sized : size ≡ edges_of_a_block ring
  pub banded : AreBanded size bands ring
