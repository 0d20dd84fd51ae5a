-- How a geography is served: a FeatureCollection with one Feature of one MultiPolygon (RFC 7946, sections 3.1.7, 3.2
-- and 3.3), with its names in byte order.
use Rattle.std.specs.Prelude.{ℕ, pos, List, [], ◌∷◌, ◌++◌, map, codes, Option, Some, None}
use Rattle.uuid.specs.Text.{hyphenated_text, lower}
use Rattle.mds_text.specs.Tree.{Json, null, int, text, degrees, list, object, items_of, members_of}
use Rattle.mds_geometry.specs.declared.position.Position.{Position}
use Rattle.mds_geography.specs.Geography.{Geography}

abbrev pub list_json : List Json → Json
list_json values = list (items_of values)

-- `[lng,lat]` in degrees
abbrev pub position_json : Position → Json
position_json p = list_json (degrees p.lng ∷ degrees p.lat ∷ [])

abbrev pub ring_json : List Position → Json
ring_json ring = list_json (map position_json ring)

abbrev pub polygon_json : List (List Position) → Json
polygon_json rings = list_json (map ring_json rings)

abbrev pub multipolygon_json : List (List (List Position)) → Json
multipolygon_json polygons =
    object (members_of ((codes "coordinates", list_json (map polygon_json polygons)) ∷ (codes "type", text (codes "MultiPolygon")) ∷ []))

abbrev pub feature_json : List (List (List Position)) → Json
feature_json polygons =
    object (members_of ((codes "geometry", multipolygon_json polygons) ∷ (codes "properties", null) ∷ (codes "type", text (codes "Feature")) ∷ []))

abbrev pub collection_json : List (List (List Position)) → Json
collection_json polygons =
    object (members_of ((codes "features", list_json (feature_json polygons ∷ [])) ∷ (codes "type", text (codes "FeatureCollection")) ∷ []))

abbrev pub description_member : Option (List ℕ) → List (List ℕ × Json)
description_member None = []
description_member (Some s) = (codes "description", text s) ∷ []

abbrev pub date_member : Option ℕ → List (List ℕ × Json)
date_member None = []
date_member (Some t) = (codes "published_date", int (pos t)) ∷ []

-- the geography as it is served, with the moment of its publication where one is given
abbrev pub served : Geography → Option ℕ → Json
served g moment =
    object (members_of (description_member g.description
    ++ (codes "geography_id", text (hyphenated_text lower g.id)) ∷ (codes "geography_json", collection_json g.polygons) ∷ (codes "name", text g.name) ∷ []
    ++ date_member moment))
