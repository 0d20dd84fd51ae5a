-- The JSON value that a `Node` stands for.
use Rattle.std.specs.Prelude.{ℕ, List, map}
use Rattle.std.specs.Borrow.{Bor}
use Rattle.mds_text.specs.Tree.{Json, null, boolean, int, text, degrees, list, object, no_items, item, items_of, members_of}
use Rattle.mds_json.specs.declared.node.Node.{Node, Node-F, fold-Node}
use Rattle.mds_json.specs.declared.node.Node.TheOpen.{NodeMember-F}
use Rattle.mds_json.specs.declared.node.NodeMember.{NodeMember}

-- a list of two strings
abbrev pub pair_view : Bor (List ℕ) × Bor (List ℕ) → Json
pair_view p = list (item (text p.0.now) (item (text p.1.now) no_items))

-- one level of a tree, whose children are JSON values already
abbrev pub node_step : Node-F Json (List ℕ × Json) → Json
node_step Node-F.Null = null
node_step (Node-F.Bool b) = boolean b
node_step (Node-F.Int z) = int z
node_step (Node-F.Text s) = text s.now
node_step (Node-F.Degrees u) = degrees u
node_step (Node-F.Pair s t) = list (item (text s.now) (item (text t.now) no_items))
node_step (Node-F.Pairs v) = list (items_of (map pair_view v.items))
node_step (Node-F.List v) = list (items_of v.items)
node_step (Node-F.Object v) = object (members_of v.items)

abbrev pub member_step : NodeMember-F Json (List ℕ × Json) → List ℕ × Json
member_step m = (m.name.now, m.value)

-- the JSON value of a `Node`
abbrev pub node_view : Node → Json
node_view = fold-Node Json (List ℕ × Json) node_step member_step

-- a member's name and value
abbrev pub node_member_view : NodeMember → List ℕ × Json
node_member_view m = (m.name.now, node_view m.value)
