-- The fast reader's tree is the defined one.
use Rattle.std.proofs.Common.{◌≡◌, ℕ, ℤ, List, [], Bool, true, false, cond, Option, Some, None, option_map, option_and_then, Result, Ok, Err, Ordering, Less, Equal, Greater, refl, ap, ◌∙◌, IsUtf8}
use Rattle.std.specs.Ordering.{nat_cmp, match_ordering}
use Rattle.std.specs.Cmp.Lexicographic.{slice_cmp}
use Rattle.json.specs.Json as json
use Rattle.json.specs.Token.{Token}
use Rattle.json.specs.Lex.{tokens}
use Rattle.serde_json.specs.Data as source
use Rattle.serde_json.specs.Read.{number_of, of_json, of_items, of_members, max_depth, converted}
use Rattle.mds_text.specs.Fault.{Fault, ◌>>=◌}
use Rattle.mds_text.specs.Quoting.{is_quoted, quoted_count}
use Rattle.mds_text.specs.Reading.{plain_int, json_of, items_from, members_from, json_of_read, read_text}
use Rattle.mds_text.specs.Tree.{Json, null, boolean, int, text, list, object, Items, no_items, item, Members, no_members, member}
use Rattle.mds_json.proofs.Turning.{turned_value, turned_items, turned_members}
use Rattle.mds_json.specs.Direct.{ok_of, put, tree_value, tree_items, tree_members, quoted_in}
use Rattle.mds_json.proofs.Valued.{read_text-is, count-is}
use Rattle.mds_json.proofs.Turns.{converted_some}

abbrev Agrees : json.Json → Json → Type 0
Agrees j t = (d : source.Data) × (of_json (turned_value j) ≡ Some d) × (json_of d ≡ Ok t)

abbrev the : {A : Type 0} → A → Option A → A
the a None = a
the a (Some b) = b

abbrev same : {A : Type 0} (a b : A) → Some a ≡ Some b → a ≡ b
same a b e = ap (the a) e

plain_number : (s : List ℕ) (t : Json) (o : Option source.Num) → number_of s ≡ o → option_map int (option_and_then (λ n. ok_of (plain_int n)) o) ≡ Some t
    → (d : source.Data) × (option_map source.number (number_of s) ≡ Some d) × (json_of d ≡ Ok t)
plain_number s t None e h = absurd (cc)
plain_number s t (Some n) e h = (source.number n, ap (option_map source.number) e, go (plain_int n) h)
  where
    go : (r : Result ℤ Fault) → option_map int (ok_of r) ≡ Some t → (r >>= λ z. Ok (int z)) ≡ Ok t
    go (Ok z) h = ap Ok (same (int z) t h)
    go (Err f) h = absurd (cc)

number_agrees : (s : List ℕ) (t : Json) (b : Bool) → cond b (Some (text s)) (option_map int (option_and_then (λ n. ok_of (plain_int n)) (number_of s))) ≡ Some t
    → (d : source.Data) × (of_json (cond b (json.string s) (json.number s)) ≡ Some d) × (json_of d ≡ Ok t)
number_agrees s t true h = (source.string s, refl, ap Ok (same (text s) t h))
number_agrees s t false h = plain_number s t (number_of s) refl h

mapped : {A B : Type 0} (f : A → B) (o : Option A) (b : B) → option_map f o ≡ Some b → (a : A) × (o ≡ Some a) × (f a ≡ b)
mapped f None b h = absurd (cc)
mapped f (Some a) b h = (a, refl, same (f a) b h)

chained : {A B : Type 0} (f : A → Option B) (o : Option A) (b : B) → option_and_then f o ≡ Some b → (a : A) × (o ≡ Some a) × (f a ≡ Some b)
chained f None b h = absurd (cc)
chained f (Some a) b h = (a, refl, h)

abbrev the_ok : {A : Type 0} → A → Result A Fault → A
the_ok a (Ok b) = b
the_ok a (Err e) = a

bound : {A B : Type 0} (r : Result A Fault) (f : A → Result B Fault) (b : B) → r >>= f ≡ Ok b → (a : A) × (r ≡ Ok a) × (f a ≡ Ok b)
bound (Ok a) f b h = (a, refl, h)
bound (Err e) f b h = absurd (cc)

member_from : (l : List ℕ) (u : source.Data) (ms : source.Members) (v : Json) (vs : Members) → json_of u ≡ Ok v → members_from ms ≡ Ok vs → members_from (source.member l u ms) ≡ Ok (member l v vs)
member_from l u ms v vs e f = ap (λ r. r >>= λ t. members_from ms >>= λ ts. Ok (member l t ts)) e ∙ ap (λ r. r >>= λ ts. Ok (member l v ts)) f

put_at : (o : Ordering) (k l : List ℕ) (d u : source.Data) (t v : Json) (ms : source.Members) (vs : Members) → json_of d ≡ Ok t → json_of u ≡ Ok v → members_from ms ≡ Ok vs → members_from (source.put k d ms) ≡ Ok (put k t vs)
    → members_from (match_ordering o (source.member k d (source.member l u ms)) (source.member l d ms) (source.member l u (source.put k d ms))) ≡ Ok (match_ordering o (member k t (member l v vs)) (member l t vs) (member l v (put k t vs)))
put_at Less k l d u t v ms vs e f g h = member_from k d (source.member l u ms) t (member l v vs) e (member_from l u ms v vs f g)
put_at Equal k l d u t v ms vs e f g h = member_from l d ms t vs e g
put_at Greater k l d u t v ms vs e f g h = member_from l u (source.put k d ms) v (put k t vs) f h

put_agrees : (k : List ℕ) (d : source.Data) (t : Json) (ms : source.Members) (ts : Members) → json_of d ≡ Ok t → members_from ms ≡ Ok ts → members_from (source.put k d ms) ≡ Ok (put k t ts)
put_agrees k d t source.no_members ts e f =
    let none : no_members ≡ ts = ap (the_ok no_members) f in
    member_from k d source.no_members t no_members e refl ∙ ap (λ m. Ok (put k t m)) none
put_agrees k d t (source.member l u ms) ts e f =
    let one = bound (json_of u) (λ v. members_from ms >>= λ vs. Ok (member l v vs)) ts f in
    let two = bound (members_from ms) (λ vs. Ok (member l one.0 vs)) ts one.2 in
    let is : member l one.0 two.0 ≡ ts = ap (the_ok ts) two.2 in
    put_at (slice_cmp nat_cmp k l) k l d u t one.0 ms two.0 e one.1 two.1 (put_agrees k d t ms two.0 e two.1) ∙ ap (λ m. Ok (put k t m)) is

abbrev ItemsAgree : json.Items → Items → Type 0
ItemsAgree js ts = (ds : source.Items) × (of_items (turned_items js) ≡ Some ds) × (items_from ds ≡ Ok ts)

abbrev MembersAgree : json.Members → source.Members → Members → Type 0
MembersAgree ms old ts = (ds : source.Members) × (of_members (turned_members ms) old ≡ Some ds) × (members_from ds ≡ Ok ts)

mutual
  value_agrees : (j : json.Json) (t : Json) → tree_value j ≡ Some t → Agrees j t
  value_agrees json.null t h = (source.null, refl, ap Ok (same null t h))
  value_agrees (json.boolean b) t h = (source.boolean b, refl, ap Ok (same (boolean b) t h))
  value_agrees (json.number s) t h = number_agrees s t (is_quoted s) h
  value_agrees (json.string s) t h = (source.string s, refl, ap Ok (same (text s) t h))
  value_agrees (json.array js) t h =
      let m = mapped list (tree_items js) t h in
      let a = items_agree js m.0 m.1 in
      (source.array a.0, ap (option_map source.array) a.1, ap (λ r. r >>= λ ts. Ok (list ts)) a.2 ∙ ap Ok m.2)
  value_agrees (json.object ms) t h =
      let m = mapped object (tree_members ms no_members) t h in
      let a = members_agree ms source.no_members no_members m.0 refl m.1 in
      (source.object a.0, ap (option_map source.object) a.1, ap (λ r. r >>= λ ts. Ok (object ts)) a.2 ∙ ap Ok m.2)

  items_agree : (js : json.Items) (ts : Items) → tree_items js ≡ Some ts → ItemsAgree js ts
  items_agree json.no_items ts h = (source.no_items, refl, ap Ok (same no_items ts h))
  items_agree (json.item j js) ts h =
      let c = chained (λ t. option_map (item t) (tree_items js)) (tree_value j) ts h in
      let m = mapped (item c.0) (tree_items js) ts c.2 in
      let v = value_agrees j c.0 c.1 in
      let a = items_agree js m.0 m.1 in (
        source.item v.0 a.0,
        ap (option_and_then (λ d. option_map (source.item d) (of_items (turned_items js)))) v.1 ∙ ap (option_map (source.item v.0)) a.1,
        ap (λ r. r >>= λ t. items_from a.0 >>= λ us. Ok (item t us)) v.2 ∙ ap (λ r. r >>= λ us. Ok (item c.0 us)) a.2 ∙ ap Ok m.2,
      )

  members_agree : (ms : json.Members) (old : source.Members) (found ts : Members) → members_from old ≡ Ok found → tree_members ms found ≡ Some ts → MembersAgree ms old ts
  members_agree json.no_members old found ts e h = (old, refl, e ∙ ap Ok (same found ts h))
  members_agree (json.member k j ms) old found ts e h =
      let c = chained (λ t. tree_members ms (put k t found)) (tree_value j) ts h in
      let v = value_agrees j c.0 c.1 in
      let a = members_agree ms (source.put k v.0 old) (put k c.0 found) ts (put_agrees k v.0 c.0 old found v.2 e) c.2 in
      (a.0, ap (option_and_then (λ d. of_members (turned_members ms) (source.put k d old))) v.1 ∙ a.1, a.2)

-- the fast reader's result is the defined one
pub read_text-direct : (bytes : List ℕ) (t : Json) → IsUtf8 bytes → converted tree_value (json.value max_depth (tokens bytes)) ≡ Some (t, []) → read_text bytes ≡ Ok t
read_text-direct bytes t u h = go (json.value max_depth (tokens bytes)) refl h
  where
    go : (o : Option (json.Json × List Token)) → json.value max_depth (tokens bytes) ≡ o → converted tree_value o ≡ Some (t, []) → read_text bytes ≡ Ok t
    go None e h = absurd (cc)
    go (Some p) e h =
        let m = mapped (λ b. (b, p.1)) (tree_value p.0) (t, []) h in
        let left : p.1 ≡ [] = ap (λ q. q.1) m.2 in
        let found : m.0 ≡ t = ap (λ q. q.0) m.2 in
        let a = value_agrees p.0 t (m.1 ∙ ap Some found) in
        read_text-is bytes p.0 u (e ∙ ap (λ r. Some (p.0, r)) left) ∙ ap json_of_read a.1 ∙ a.2

pub count-direct : (bytes : List ℕ) (t : Json) → converted tree_value (json.value max_depth (tokens bytes)) ≡ Some (t, []) → quoted_count bytes ≡ quoted_in (tokens bytes)
count-direct bytes t h = let j = converted_some tree_value (json.value max_depth (tokens bytes)) t [] h in count-is bytes j.0 j.1
