-- A `Node`, level by level.
use Rattle.std.proofs.Common.{◌≡◌, ℕ, ℤ, Bool, List, map, Vec, Global, rules}
use Rattle.std.specs.Borrow.{Bor}
use Rattle.mds_text.specs.Tree.{null, boolean, int, text, degrees, list, object, item, no_items, items_of, members_of}
use Rattle.mds_json.specs.Node.{node_view, node_member_view, pair_view}
use Rattle.mds_json.specs.declared.node.Node.{Node, Null, Bool as BoolOf, Int, Text, Degrees, Pair, Pairs, List as ListOf, Object, the_lemmas}
use Rattle.mds_json.specs.declared.node.NodeMember.{NodeMember}

pub node-Null : node_view Null ≡ null
node-Null = search (rules, the_lemmas)

pub node-Bool : (b : Bool) → node_view (BoolOf b) ≡ boolean b
node-Bool b = search (rules, the_lemmas)

pub node-Int : (z : ℤ) → node_view (Int z) ≡ int z
node-Int z = search (rules, the_lemmas)

pub node-Text : (s : Bor (List ℕ)) → node_view (Text s) ≡ text s.now
node-Text s = search (rules, the_lemmas)

pub node-Degrees : (u : ℤ) → node_view (Degrees u) ≡ degrees u
node-Degrees u = search (rules, the_lemmas)

pub node-Pair : (s t : Bor (List ℕ)) → node_view (Pair s t) ≡ list (item (text s.now) (item (text t.now) no_items))
node-Pair s t = search (rules, the_lemmas)

pub node-Pairs : (v : Vec (Bor (List ℕ) × Bor (List ℕ)) Global) → node_view (Pairs v) ≡ list (items_of (map pair_view v.items))
node-Pairs v = search (rules, the_lemmas)

pub node-List : (v : Vec Node Global) → node_view (ListOf v) ≡ list (items_of (map node_view v.items))
node-List v = search (rules, the_lemmas)

pub node-Object : (v : Vec NodeMember Global) → node_view (Object v) ≡ object (members_of (map node_member_view v.items))
node-Object v = search (rules, the_lemmas)
