-- The first entries of a list.
use Rattle.std.specs.Prelude.{List, [], ◌∷◌}
use Rattle.mds_text.specs.Tree.{Json, Items, item, int, text}
use Rattle.mds_json.specs.declared.first_entries.FirstEntries.{FirstEntries}
use Rattle.mds_json.specs.declared.first_entries.FirstEntries.TheVariants.{Empty, One, Two}
use Rattle.mds_json.specs.declared.first_entries.Scalar.{Scalar}
use Rattle.mds_json.specs.declared.first_entries.Scalar.TheVariants.{Int, Text}

abbrev pub scalar_view : Scalar → Json
scalar_view (Int z) = int z
scalar_view (Text s) = text s.now

abbrev pub gathered : FirstEntries → List Json
gathered Empty = []
gathered (One a) = scalar_view a ∷ []
gathered (Two a b) = scalar_view a ∷ scalar_view b ∷ []

-- these entries, then those of `rest`
abbrev pub items_before : List Json → Items → Items
items_before [] rest = rest
items_before (v ∷ vs) rest = item v (items_before vs rest)
