-- A `Tree`, level by level.
use Rattle.std.proofs.Common.{◌≡◌, ℤ, Bool, List, [], ◌∷◌, map, String, Vec, Global, string_bytes, refl, ap, rules}
use Rattle.mds_text.specs.Tree.{Json, null, boolean, int, text, degrees, list, object, items_of, members_of, entries}
use Rattle.mds_text.specs.View.{view, member_view}
use Rattle.mds_text.specs.declared.tree.Tree.{Tree, Null, Bool as BoolOf, Int, Text, Degrees, List as ListOf, Object, the_lemmas}
use Rattle.mds_text.specs.declared.tree.Member.{Member}

pub view-Null : view Null ≡ null
view-Null = search (rules, the_lemmas)

pub view-Bool : (b : Bool) → view (BoolOf b) ≡ boolean b
view-Bool b = search (rules, the_lemmas)

pub view-Int : (z : ℤ) → view (Int z) ≡ int z
view-Int z = search (rules, the_lemmas)

pub view-Text : (s : String Global) → view (Text s) ≡ text (string_bytes s)
view-Text s = search (rules, the_lemmas)

pub view-Degrees : (u : ℤ) → view (Degrees u) ≡ degrees u
view-Degrees u = search (rules, the_lemmas)

pub view-List : (v : Vec Tree Global) → view (ListOf v) ≡ list (items_of (map view v.items))
view-List v = search (rules, the_lemmas)

pub view-Object : (v : Vec Member Global) → view (Object v) ≡ object (members_of (map member_view v.items))
view-Object v = search (rules, the_lemmas)

pub entries-items_of : (ts : List Json) → entries (items_of ts) ≡ ts
entries-items_of [] = refl
entries-items_of (t ∷ ts) = ap (λ rest. t ∷ rest) (entries-items_of ts)
