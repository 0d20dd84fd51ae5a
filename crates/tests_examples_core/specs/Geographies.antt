-- Areas, positions in degrees, and texts of geographies.
use Rattle.std.specs.Prelude.{ℕ, ◌*◌, pos, neg_ℤ, List, [], ◌∷◌, ◌++◌, None, Result, Ok, bytes_eq, codes, if◌then◌else◌}
use Rattle.mds_geometry.specs.Coordinate.{units_of_degree}
use Rattle.mds_geometry.specs.declared.position.Position.{Position}
use Rattle.mds_text.specs.Fault.{Fault, ◌>>=◌}
use Rattle.mds_text.specs.Printed.{printed}
use Rattle.mds_geography.specs.Geography.{Geography}
use Rattle.mds_geography.specs.Reading.{read_geography}
use Rattle.mds_geography.specs.Served.{served}
use Rattle.tests_examples_core.specs.Ids.{id_text, square_id, wide_id}

-- a position so many degrees east or west of Greenwich and north of the equator
abbrev pub east : ℕ → ℕ → Position
east lng lat = record { lng = pos (lng * units_of_degree); lat = pos (lat * units_of_degree) }

abbrev pub west : ℕ → ℕ → Position
west lng lat = record { lng = neg_ℤ (pos (lng * units_of_degree)); lat = pos (lat * units_of_degree) }

-- the same south of the equator
abbrev pub south_east : ℕ → ℕ → Position
south_east lng lat = record { lng = pos (lng * units_of_degree); lat = neg_ℤ (pos (lat * units_of_degree)) }

abbrev pub south_west : ℕ → ℕ → Position
south_west lng lat = record { lng = neg_ℤ (pos (lng * units_of_degree)); lat = neg_ℤ (pos (lat * units_of_degree)) }

-- a square of ten degrees
abbrev pub square : List (List Position)
square = (east 0 0 ∷ east 10 0 ∷ east 10 10 ∷ east 0 10 ∷ east 0 0 ∷ []) ∷ []

-- the same with a square hole of two degrees in its middle
abbrev pub holed : List (List Position)
holed =
    (east 0 0 ∷ east 10 0 ∷ east 10 10 ∷ east 0 10 ∷ east 0 0 ∷ [])
    ∷ (east 4 4 ∷ east 6 4 ∷ east 6 6 ∷ east 4 6 ∷ east 4 4 ∷ [])
    ∷ []

-- the half of the square that lies below a diagonal
abbrev pub triangle : List (List Position)
triangle = (east 0 0 ∷ east 10 0 ∷ east 0 10 ∷ east 0 0 ∷ []) ∷ []

-- a square on its corner
abbrev pub diamond : List (List Position)
diamond = (east 5 0 ∷ east 10 5 ∷ east 5 10 ∷ east 0 5 ∷ east 5 0 ∷ []) ∷ []

-- forty degrees wide, around the square
abbrev pub wide : List (List Position)
wide = (south_west 20 20 ∷ south_east 20 20 ∷ east 20 20 ∷ west 20 20 ∷ south_west 20 20 ∷ []) ∷ []

-- the square and the wide area under their identifiers, and nothing else
abbrev pub areas : List ℕ → List (List (List Position))
areas id = if bytes_eq id square_id then square ∷ [] else if bytes_eq id wide_id then wide ∷ [] else []

-- the text of a geography of this name, with this GeoJSON
abbrev pub geography_text : List ℕ → List ℕ → List ℕ
geography_text name json =
    codes "{\"geography_id\":\"" ++ id_text (codes "101") ++ codes "\",\"name\":\"" ++ name ++ codes "\",\"geography_json\":" ++ json ++ codes "}"

-- the text of a polygon with these rings
abbrev pub polygon_text : List ℕ → List ℕ
polygon_text rings = codes "{\"type\":\"Polygon\",\"coordinates\":[" ++ rings ++ codes "]}"

abbrev pub feature_text : List ℕ → List ℕ
feature_text geometry = codes "{\"type\":\"Feature\",\"geometry\":" ++ geometry ++ codes "}"

abbrev pub collection_text : List ℕ → List ℕ
collection_text features = codes "{\"type\":\"FeatureCollection\",\"features\":[" ++ features ++ codes "]}"

-- the text of a geography with one ring
abbrev pub with_ring : List ℕ → List ℕ
with_ring ring = geography_text (codes "square") (polygon_text ring)

abbrev pub square_text : List ℕ
square_text = with_ring (codes "[[0,0],[10,0],[10,10],[0,10],[0,0]]")

abbrev pub square_document : Geography
square_document = record { id = square_id; name = codes "square"; description = None; polygons = square ∷ [] }

-- the text as which the geography that is read from a text is served before it is published
abbrev pub served_as : List ℕ → Result (List ℕ) Fault
served_as bytes = read_geography bytes >>= λ g. Ok (printed (served g None))

-- the text of a served geography, with the coordinates of its polygons and more members at its end
abbrev pub served_text : List ℕ → List ℕ → List ℕ → List ℕ
served_text name coordinates more =
    codes "{\"geography_id\":\"" ++ id_text (codes "101")
    ++ codes "\",\"geography_json\":{\"features\":[{\"geometry\":{\"coordinates\":[" ++ coordinates
    ++ codes "],\"type\":\"MultiPolygon\"},\"properties\":null,\"type\":\"Feature\"}],\"type\":\"FeatureCollection\"},\"name\":\"" ++ name ++ codes "\"" ++ more ++ codes "}"
