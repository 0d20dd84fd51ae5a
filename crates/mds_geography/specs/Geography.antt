-- A geography document (MDS 2.0 Geography), and the documents that the program's types stand for.
use Rattle.std.specs.Prelude.{ℕ, List, Option, option_map, string_bytes}
use Rattle.mds_geometry.specs.declared.position.Position.{Position}
use Rattle.mds_geography.specs.declared.geography.Geography as program
use Rattle.mds_geography.specs.declared.geography.ParsedGeography.{ParsedGeography}

-- A geography document: its polygons in document order, each the list of its rings.
pub record Geography : Type 0 where
  pub id : List ℕ
  pub name : List ℕ
  pub description : Option (List ℕ)
  pub polygons : List (List (List Position))

-- the document of the program's `Geography`
abbrev pub geography_document : program.Geography → Geography
geography_document g =
    record {
      id = g.id;
      name = string_bytes g.name;
      description = option_map (λ s. string_bytes s) g.description;
      polygons = g.area;
    }

-- the document that was read, before its area is indexed
abbrev pub said_document : ParsedGeography → Geography
said_document s =
    record {
      id = s.id;
      name = string_bytes s.name;
      description = option_map (λ t. string_bytes t) s.description;
      polygons = s.polygons.items;
    }
