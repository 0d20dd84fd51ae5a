-- The JSON value that a `Tree` stands for.
use Rattle.std.specs.Prelude.{ℕ, List, string_bytes}
use Rattle.mds_text.specs.Tree.{Json, null, boolean, int, text, degrees, list, object, items_of, members_of}
use Rattle.mds_text.specs.declared.tree.Tree.{Tree, Tree-F, fold-Tree}
use Rattle.mds_text.specs.declared.tree.Tree.TheOpen.{Member-F}
use Rattle.mds_text.specs.declared.tree.Member.{Member}

-- one level of a tree, whose children are JSON values already
abbrev pub tree_step : Tree-F Json (List ℕ × Json) → Json
tree_step Tree-F.Null = null
tree_step (Tree-F.Bool b) = boolean b
tree_step (Tree-F.Int z) = int z
tree_step (Tree-F.Text s) = text (string_bytes s)
tree_step (Tree-F.Degrees u) = degrees u
tree_step (Tree-F.List v) = list (items_of v.items)
tree_step (Tree-F.Object v) = object (members_of v.items)

abbrev pub member_step : Member-F Json (List ℕ × Json) → List ℕ × Json
member_step m = (string_bytes m.name, m.value)

-- the JSON value of a `Tree`
abbrev pub view : Tree → Json
view = fold-Tree Json (List ℕ × Json) tree_step member_step

-- a member's name and value
abbrev pub member_view : Member → List ℕ × Json
member_view m = (string_bytes m.name, view m.value)
