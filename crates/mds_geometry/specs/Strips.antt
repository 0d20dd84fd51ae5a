-- The edges of an area by strips of latitude, and how the edges of one strip decide what the area holds.
use Rattle.std.specs.Prelude.{ℕ, ◌+◌, ◌-◌, ◌*◌, ◌/◌, ◌^◌, ◌<◌, ◌≤◌, ◌≡◌, length, get_or, slice_get, Option, Some, None, Bool, not, cond, ◌&&◌, ◌||◌, nat_eq, nat_le, if◌then◌else◌, List, [], ◌∷◌, ◌++◌, map, ℤ, pos, neg_ℤ, ◌+ℤ◌, int_le, unsigned_abs}
use Rattle.std.specs.Int.{abs_diff}
use Rattle.std.specs.List.{filter, filter_map, sum_by}
use Rattle.mds_geometry.specs.Bounds.{AreBounded}
use Rattle.mds_geometry.specs.declared.bounds.BoundingBox.{BoundingBox}
use Rattle.mds_geometry.specs.Inside.{edges, is_on, is_crossed}
use Rattle.mds_geometry.specs.declared.position.Position.{Position}
use Rattle.mds_geometry.specs.declared.strip.Edge.{Edge}
use Rattle.mds_geometry.specs.declared.scale.Scale.{Scale}
use Rattle.mds_geometry.specs.declared.start.EdgeStart.{EdgeStart}

-- an edge of the polygon at this index
abbrev pub edge_of : ℕ → Position × Position → Edge
edge_of polygon e = record { from = e.0; to = e.1; polygon = polygon }

-- the edges of these polygons in their order, where the first polygon has the index `place`
abbrev pub edges_from : ℕ → List (List (List Position)) → List Edge
edges_from place [] = []
edges_from place (rings ∷ polygons) = map (edge_of place) (edges rings) ++ edges_from (place + 1) polygons

-- the positions of a ring of these polygons, by the index of its polygon and its own; none where there is no such ring
abbrev pub ring_at : List (List (List Position)) → ℕ → ℕ → List Position
ring_at polygons polygon ring = get_or (get_or polygons polygon []) ring []

-- the edge from one position to another, where there are both
abbrev pub edge_between : ℕ → Option Position → Option Position → Option Edge
edge_between polygon None to = None
edge_between polygon (Some from) None = None
edge_between polygon (Some from) (Some to) = Some (edge_of polygon (from, to))

-- the edge that starts at a position of a ring, where another one follows
abbrev pub edge_at : List Position → EdgeStart → Option Edge
edge_at ring start = edge_between start.polygon (slice_get ring start.position) (slice_get ring (start.position + 1))

-- the edge of these polygons that starts there
abbrev pub edge_in : List (List (List Position)) → EdgeStart → Option Edge
edge_in polygons start = edge_at (ring_at polygons start.polygon start.ring) start

-- the edges of these polygons that start there, in this order
abbrev pub edges_at : List (List (List Position)) → List EdgeStart → List Edge
edges_at polygons starts = filter_map (edge_in polygons) starts

-- the row of a latitude, or the column of a longitude: its units of 10^-7 degree from the least coordinate, -180
-- degrees
abbrev pub row_of : ℤ → ℕ
row_of lat = if int_le (neg_ℤ (pos 1800000000)) lat then unsigned_abs (lat +ℤ pos 1800000000) else 0

-- a number, but at most the last strip
abbrev pub at_most : ℕ → ℕ → ℕ
at_most last n = if nat_le n last then n else last

-- the strip of a latitude, counted from the south
abbrev pub strip_of : Scale → ℤ → ℕ
strip_of scale lat = at_most scale.last (row_of lat / 2 ^ scale.shift - scale.first)

-- a number lies between two others, both included
abbrev pub lies_between : ℕ → ℕ → ℕ → Bool
lies_between a b n = (nat_le a n && nat_le n b) || (nat_le b n && nat_le n a)

-- an edge reaches a strip
abbrev pub reaches : Scale → ℕ → Edge → Bool
reaches scale strip e = lies_between (strip_of scale e.from.lat) (strip_of scale e.to.lat) strip

-- whether a polygon of these edges holds a position; `odd` is the parity of the edges crossed so far of the polygon at
-- `polygon`
abbrev pub any_holds : Position → ℕ → Bool → List Edge → Bool
any_holds at polygon odd [] = odd
any_holds at polygon odd (e ∷ es) =
    if nat_eq e.polygon polygon
    then (is_on e.from e.to at || any_holds at polygon (cond (is_crossed e.from e.to at) (not odd) odd) es)
    else (odd || (is_on e.from e.to at || any_holds at e.polygon (is_crossed e.from e.to at) es))

-- each strip has the starts of those edges that reach it, in their order
pub record AreFiled (polygons : List (List (List Position))) (scale : Scale) (edges : List Edge) (strips : List (List EdgeStart)) : Type 0 where
  pub whole : length strips ≡ scale.last + 1
  pub filed : (s : ℕ) → s < length strips → edges_at polygons (get_or strips s []) ≡ filter (reaches scale s) edges

-- how many rows an edge extends from south to north
abbrev pub reach : Edge → ℕ
reach e = abs_diff (row_of e.from.lat) (row_of e.to.lat)

-- the sum of the edges' extents, unless it is too great for 64 bits
abbrev pub AreMeasured : List Edge → ℕ → Type 0
AreMeasured edges far = far < 18446744073709551615 → sum_by reach edges ≡ far

-- how many strips an edge reaches
abbrev pub span : Scale → Edge → ℕ
span scale e = abs_diff (strip_of scale e.from.lat) (strip_of scale e.to.lat) + 1

-- the polygons lie within the bounds, and the strips have their edges, with at most four entries for an edge on average
pub record IsIndexed (polygons : List (List (List Position))) (bounds : BoundingBox) (scale : Scale) (strips : List (List EdgeStart)) : Type 0 where
  pub bounded : AreBounded bounds polygons
  pub filed : AreFiled polygons scale (edges_from 0 polygons) strips
  pub few : sum_by (span scale) (edges_from 0 polygons) ≤ 4 * length (edges_from 0 polygons)
