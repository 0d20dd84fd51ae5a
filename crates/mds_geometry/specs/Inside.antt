use Rattle.std.specs.Prelude.{ℕ, ◌%◌, ◌==◌, Bool, ◌&&◌, ◌||◌, List, drop, ℤ, pos, ◌-ℤ◌, ◌*ℤ◌, int_lt, int_le}
use Rattle.std.specs.Ordering.{int_eq}
use Rattle.std.specs.List.{zip, flat_map, list_any, count_by}
use Rattle.mds_geometry.specs.declared.position.Position.{Position}

-- a ring's edges: its pairs of neighbouring positions (RFC 7946, section 3.1.6)
abbrev pub edges_of_ring : List Position → List (Position × Position)
edges_of_ring ring = zip ring (drop 1 ring)

-- a polygon's edges: those of all its rings, holes included (RFC 7946, section 3.1.6)
abbrev pub edges : List (List Position) → List (Position × Position)
edges rings = flat_map edges_of_ring rings

-- the cross product of the vectors from a position to the two ends of an edge: positive where the position lies to the
-- left of the edge, negative to the right, zero on the edge's line
abbrev pub turn : Position → Position → Position → ℤ
turn from to at =
    ((from.lng -ℤ at.lng) *ℤ (to.lat -ℤ at.lat)) -ℤ ((to.lng -ℤ at.lng) *ℤ (from.lat -ℤ at.lat))

-- a number lies between two others, both included
abbrev pub is_between : ℤ → ℤ → ℤ → Bool
is_between a b x = (int_le a x && int_le x b) || (int_le b x && int_le x a)

-- a position is on an edge: within its bounding box, borders included, and on its line
abbrev pub is_on : Position → Position → Position → Bool
is_on from to at =
    is_between from.lat to.lat at.lat && is_between from.lng to.lng at.lng && int_eq (turn from to at) (pos 0)

-- an edge rises past a position: its end has a greater latitude than the position, its start hasn't
abbrev pub rises_past : Position → Position → Position → Bool
rises_past from to at = int_le from.lat at.lat && int_lt at.lat to.lat

-- the eastward ray from a position crosses an edge: exactly one end has a greater latitude, and the
-- position lies strictly west of the edge, which is to the left of one that rises and to the right of
-- one that falls
abbrev pub is_crossed : Position → Position → Position → Bool
is_crossed from to at =
    (rises_past from to at && int_lt (pos 0) (turn from to at)) || (rises_past to from at && int_lt (turn from to at) (pos 0))

-- a position is on one of these edges
abbrev pub touches : List (Position × Position) → Position → Bool
touches edges at = list_any (λ e. is_on e.0 e.1 at) edges

-- how many of these edges the eastward ray from a position crosses
abbrev pub crossings : List (Position × Position) → Position → ℕ
crossings edges at = count_by (λ e. is_crossed e.0 e.1 at) edges

-- a number is odd
abbrev pub is_odd : ℕ → Bool
is_odd n = n % 2 == 1

-- a polygon holds a position on one of its edges, and one whose eastward ray crosses an odd number
-- of them: inside the exterior ring and in no hole (RFC 7946, section 3.1.6)
unfoldable pub holds : List (List Position) → Position → Bool
holds rings at = touches (edges rings) at || is_odd (crossings (edges rings) at)
