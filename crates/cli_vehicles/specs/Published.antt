-- What is published, as files: documents of MDS 2.0 as the server answers with them, and features of GeoJSON (RFC
-- 7946). A number that was read as the text of its characters is written as a number again.
use Rattle.std.specs.Prelude.{ℕ, List, [], ◌∷◌, ◌++◌, Bool, true, false, if◌then◌else◌, Option, Some, None, option_and_then, codes}
use Rattle.mds_text.specs.Printed.{printed, quoted, comma_if}
use Rattle.mds_text.specs.Quoting.{is_quoted}
use Rattle.mds_text.specs.Tree.{Json, null, boolean, int, text, degrees, list, object, Items, no_items, item, Members, no_members, member}
use Rattle.cli_documents.specs.Members.{named, list_named, or_none}

-- a text that reads as a number that isn't plain is written as that number
abbrev pub bare_text : List ℕ → List ℕ
bare_text s = if is_quoted s then s else quoted s

-- the compact text of a value with such numbers
abbrev mutual
  pub bare : Json → List ℕ
  bare null = printed null
  bare (boolean b) = printed (boolean b)
  bare (int z) = printed (int z)
  bare (text s) = bare_text s
  bare (degrees z) = printed (degrees z)
  bare (list ts) = 91 ∷ bare_items false ts ++ 93 ∷ []
  bare (object ms) = 123 ∷ bare_members false ms ++ 125 ∷ []

  pub bare_items : Bool → Items → List ℕ
  bare_items later no_items = []
  bare_items later (item t ts) = comma_if later ++ bare t ++ bare_items true ts

  pub bare_members : Bool → Members → List ℕ
  bare_members later no_members = []
  bare_members later (member name t ms) = comma_if later ++ quoted name ++ 58 ∷ [] ++ bare t ++ bare_members true ms

-- a value where it is there, or else null
abbrev pub or_null : (Json → List ℕ) → Option Json → List ℕ
or_null shown None = codes "null"
or_null shown (Some value) = shown value

-- a geography as the server answers with it, its shape with numbers
unfoldable pub geography_text : Json → List ℕ
geography_text g =
    codes "{\"description\":" ++ or_null printed (named (codes "description") g) ++ codes ",\"geography_id\":" ++ or_null printed (named (codes "geography_id") g)
    ++ codes ",\"geography_json\":" ++ or_null bare (named (codes "geography_json") g) ++ codes ",\"name\":" ++ or_null printed (named (codes "name") g)
    ++ codes ",\"published_date\":" ++ or_null printed (named (codes "published_date") g) ++ codes "}"

-- the shape of a geography's first feature, which is its only one
abbrev pub first_of : List Json → Option Json
first_of [] = None
first_of (t ∷ ts) = Some t

abbrev pub shape_of : Json → Option Json
shape_of g =
    option_and_then (named (codes "geometry"))
    (option_and_then (λ shape. first_of (or_none (list_named (codes "features") shape))) (named (codes "geography_json") g))

-- a geography as a feature of GeoJSON
unfoldable pub feature_text : Json → List ℕ
feature_text g =
    codes "{\"geometry\":" ++ or_null bare (shape_of g) ++ codes ",\"id\":" ++ or_null printed (named (codes "geography_id") g)
    ++ codes ",\"properties\":{\"description\":" ++ or_null printed (named (codes "description") g)
    ++ codes ",\"geography_id\":" ++ or_null printed (named (codes "geography_id") g)
    ++ codes ",\"name\":" ++ or_null printed (named (codes "name") g) ++ codes "},\"type\":\"Feature\"}"

-- the texts of values, with commas between them
abbrev pub joined : (Json → List ℕ) → Bool → List Json → List ℕ
joined shown later [] = []
joined shown later (t ∷ ts) = comma_if later ++ shown t ++ joined shown true ts

-- the three files: beginning, entries, and end
abbrev pub policies_file : List Json → List ℕ
policies_file ts = codes "{\"version\":\"2.0.0\",\"data\":{\"policies\":[" ++ joined printed false ts ++ codes "]}}\n"

abbrev pub geographies_file : List Json → List ℕ
geographies_file ts = codes "{\"version\":\"2.0.0\",\"data\":{\"geographies\":[" ++ joined geography_text false ts ++ codes "]}}\n"

abbrev pub features_file : List Json → List ℕ
features_file ts = codes "{\"type\":\"FeatureCollection\",\"features\":[" ++ joined feature_text false ts ++ codes "]}\n"
