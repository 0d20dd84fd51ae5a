-- What the text of a geography is read as: the document, or the first fault in document order (MDS 2.0 Geography; RFC
-- 7946, sections 3.1 to 3.3).
use Rattle.std.specs.Prelude.{ℕ, ◌+◌, ◌-◌, List, [], ◌∷◌, ◌++◌, Bool, false, ◌&&◌, nat_lt, if◌then◌else◌, Option, Some, None, Result, Ok, Err, length, bytes_eq, codes, slice_get}
use Rattle.std.specs.Ordering.{int_eq}
use Rattle.mds_text.specs.Tree.{Json}
use Rattle.mds_text.specs.Fault.{Fault, bad_field, too_many_points, ring_short, ring_open, ◌>>=◌}
use Rattle.mds_text.specs.Fields.{member_at, optional_at, required_at, required_member, id_of, text_of, list_of, document_of}
use Rattle.mds_text.specs.Reading.{read_text}
use Rattle.mds_geometry.specs.Coordinate.{coordinate_of, most_latitude, most_longitude}
use Rattle.mds_text.specs.declared.field.Field.{Field}
use Rattle.mds_text.specs.declared.field.Field.TheVariants.{GeographyId, Name, Description, GeographyJson, Kind, Features, Geometry, Coordinates}
use Rattle.mds_geometry.specs.declared.position.Position.{Position}
use Rattle.mds_geography.specs.Geography.{Geography}

-- a geography has at most 20,000 positions, the closing ones counted too
abbrev pub most_positions : ℕ
most_positions = 20000

-- a value, and how many positions of the document were read up to its end
abbrev pub Counted : Type 0 → Type 0
Counted A = A × ℕ

-- polygons, each the list of its rings
abbrev pub Polygons : Type 0
Polygons = List (List (List Position))

-- the value without its count
abbrev pub uncounted : {A : Type 0} → Result (Counted A) Fault → Result A Fault
uncounted (Ok x) = Ok x.0
uncounted (Err fault) = Err fault

-- the count with one more position, unless there are too many
abbrev pub room_after : ℕ → Result ℕ Fault
room_after read = if nat_lt read most_positions then Ok (read + 1) else Err too_many_points

-- longitude, then latitude; further entries are ignored (RFC 7946, section 3.1.1)
abbrev pub position_of : List Json → Result Position Fault
position_of (lng ∷ lat ∷ more) = do
  x ← coordinate_of most_longitude Coordinates lng
  y ← coordinate_of most_latitude Coordinates lat
  Ok (record { lng = x; lat = y })
position_of entries = Err (bad_field Coordinates)

-- the position of one entry of a ring
abbrev pub position_at : Json → Result Position Fault
position_at value = list_of Coordinates value >>= position_of

-- the positions of a ring, each counted before it is read
abbrev pub positions_of : ℕ → List Json → Result (Counted (List Position)) Fault
positions_of read [] = Ok ([], read)
positions_of read (t ∷ ts) = do
  next ← room_after read
  entries ← list_of Coordinates t
  position ← position_of entries
  rest ← positions_of next ts
  Ok (position ∷ rest.0, rest.1)

-- the positions of a ring, from its list
abbrev pub positions_in : ℕ → Json → Result (Counted (List Position)) Fault
positions_in read value = list_of Coordinates value >>= positions_of read

-- the first and the last position of a ring are equal
abbrev pub ends_meet : Option Position → Option Position → Bool
ends_meet (Some p) (Some q) = int_eq p.lng q.lng && int_eq p.lat q.lat
ends_meet first last = false

-- a linear ring has four or more positions, and its first is its last (RFC 7946, section 3.1.6)
abbrev pub ring_from : List Position → Result (List Position) Fault
ring_from ps =
    if nat_lt (length ps) 4 then Err ring_short
    else if ends_meet (slice_get ps 0) (slice_get ps (length ps - 1)) then Ok ps
    else Err ring_open

abbrev pub ring_of : ℕ → Json → Result (Counted (List Position)) Fault
ring_of read value = do
  positions ← positions_in read value
  ring ← ring_from positions.0
  Ok (ring, positions.1)

abbrev pub rings_of : ℕ → List Json → Result (Counted (List (List Position))) Fault
rings_of read [] = Ok ([], read)
rings_of read (t ∷ ts) = do
  ring ← ring_of read t
  rest ← rings_of ring.1 ts
  Ok (ring.0 ∷ rest.0, rest.1)

-- a polygon's coordinates: a list of rings (RFC 7946, section 3.1.6)
abbrev pub polygon_of : ℕ → Json → Result (Counted (List (List Position))) Fault
polygon_of read value = list_of Coordinates value >>= rings_of read

-- a multipolygon's coordinates: a list of those of polygons (RFC 7946, section 3.1.7)
abbrev pub polygons_of : ℕ → List Json → Result (Counted Polygons) Fault
polygons_of read [] = Ok ([], read)
polygons_of read (t ∷ ts) = do
  polygon ← polygon_of read t
  rest ← polygons_of polygon.1 ts
  Ok (polygon.0 ∷ rest.0, rest.1)

abbrev pub multipolygon_of : ℕ → Json → Result (Counted Polygons) Fault
multipolygon_of read value = list_of Coordinates value >>= polygons_of read

-- The polygons of a geometry of this type; a type other than Polygon and MultiPolygon has none, and its members aren't
-- read (RFC 7946, section 3.1).
abbrev pub geometry_of : ℕ → List ℕ → Json → Result (Counted Polygons) Fault
geometry_of read kind geometry =
    if bytes_eq kind (codes "Polygon")
    then (required_member geometry Coordinates >>= λ coordinates. polygon_of read coordinates >>= λ polygon. Ok (polygon.0 ∷ [], polygon.1))
    else if bytes_eq kind (codes "MultiPolygon")
    then (required_member geometry Coordinates >>= λ coordinates. multipolygon_of read coordinates)
    else Ok ([], read)

-- any fault becomes a bad field of this name
abbrev pub renamed : {A : Type 0} → Field → Result A Fault → Result A Fault
renamed field (Ok a) = Ok a
renamed field (Err fault) = Err (bad_field field)

-- the string `type` of an object (RFC 7946, section 1.4); anything else is a bad field of this name
abbrev pub kind_of : Field → Json → Result (List ℕ) Fault
kind_of field value = renamed field (required_at text_of value Kind)

-- the polygons of a feature's geometry, where it has one
abbrev pub feature_geometry : ℕ → Option Json → Result (Counted Polygons) Fault
feature_geometry read None = Ok ([], read)
feature_geometry read (Some geometry) = do
  kind ← kind_of Geometry geometry
  geometry_of read kind geometry

-- the polygons of a feature; an absent or null geometry has none (RFC 7946, section 3.2)
abbrev pub feature_of : ℕ → Json → Result (Counted Polygons) Fault
feature_of read feature = member_at feature Geometry >>= feature_geometry read

-- the features of a collection, each an object whose type is Feature (RFC 7946, section 3.3)
abbrev pub is_feature : List ℕ → Result (List ℕ) Fault
is_feature kind = if bytes_eq kind (codes "Feature") then Ok kind else Err (bad_field Features)

abbrev pub features_of : ℕ → List Json → Result (Counted Polygons) Fault
features_of read [] = Ok ([], read)
features_of read (t ∷ ts) = do
  kind ← kind_of Features t
  feature ← is_feature kind
  polygons ← feature_of read t
  rest ← features_of polygons.1 ts
  Ok (polygons.0 ++ rest.0, rest.1)

-- the polygons of a GeoJSON object of this type; any other type than these two is that of a geometry
abbrev pub geojson_of : List ℕ → Json → Result (Counted Polygons) Fault
geojson_of kind value =
    if bytes_eq kind (codes "FeatureCollection")
    then (required_at list_of value Features >>= features_of 0)
    else if bytes_eq kind (codes "Feature") then feature_of 0 value
    else geometry_of 0 kind value

-- a geography, in the order of its table
abbrev pub geography_of : Json → Result Geography Fault
geography_of tree = do
  document ← document_of tree
  id ← required_at id_of document GeographyId
  name ← required_at text_of document Name
  description ← optional_at text_of document Description
  value ← required_member document GeographyJson
  kind ← kind_of GeographyJson value
  polygons ← uncounted (geojson_of kind value)
  Ok (record { id = id; name = name; description = description; polygons = polygons })

-- what a text is read as
abbrev pub read_geography : List ℕ → Result Geography Fault
read_geography bytes = read_text bytes >>= geography_of
