use Rattle.std.proofs.Common.{◌≡◌, ℕ, List, ◌-◌, ◌<◌, ◌∷◌, ◌++◌, [], length, Some, None, option_map, map, refl, sym, ap, ◌∙◌, arith}
use Rattle.std.specs.Borrow.{Bor}
use Rattle.std.proofs.lemmas.List.{map_push}
use Rattle.json.specs.Token.{Token, begin_array}
use Rattle.json.specs.Json.{parse_map, after_end_array, read_key, items, members, value}
use Rattle.json.specs.Reads.{token_of}
use Rattle.json.proofs.Grammar.{value_is, value-begin_array, value-begin_object, read_key-shorter}
use Rattle.serde_json.specs.Read.{converted}
use Rattle.mds_text.specs.Tree.{list, object, members_of}
use Rattle.mds_json.specs.Gathered.{gathered, items_before}
use Rattle.mds_json.specs.Node.{node_view, node_member_view, pair_view}
use Rattle.mds_json.proofs.Nodes.{node-Null, node-Bool, node-Text, node-Pair, node-Pairs, node-List, node-Object}
use Rattle.mds_json.specs.Direct.{tree_value, tree_items, tree_members, quoted_in}
use Rattle.mds_json.proofs.Turns.{converted-array, converted-object, member_read, members_over, item_read, items_over, items_before-no_items, none_before, one_more_item}
use Rattle.mds_json.proofs.Counted.{key_taken}
use Rattle.mds_json.proofs.direct.+read.Goals as goal

pub read-returns-in-String-clause-ok : goal.read-returns-in-String-clause-ok
read-returns-in-String-clause-ok t c =
    let first : c.args.reader.now ≡ token_of c.in-Some.token ∷ c.next.new.self = grind arith in
    let is : c.args.reader.now ≡ Token.string c.in-String.string.now ∷ c.next.new.self = grind (arith, first) in
    ap (converted tree_value) (ap (value c.args.depth) is ∙ value_is c.args.depth _) ∙ ap (λ d. Some (d, c.next.new.self)) (sym (node-Text c.in-String.string))

pub read-returns-in_ok-read_number-in-Number-clause-ok : goal.read-returns-in_ok-read_number-in-Number-clause-ok
read-returns-in_ok-read_number-in-Number-clause-ok t c =
    let first : c.args.reader.now ≡ token_of c.in-Some.token ∷ c.next.new.self = grind arith in
    let is : c.args.reader.now ≡ Token.number c.in-Number.number.now ∷ c.next.new.self = grind (arith, first) in
    ap (converted tree_value) (ap (value c.args.depth) is ∙ value_is c.args.depth _) ∙ ap (option_map (λ d. (d, c.next.new.self))) (c.in_ok-read_number-in-Number.ensures.value) ∙ ap (λ d. Some (d, c.next.new.self)) (sym c.node.ensures)

pub read-returns-in-Bool-clause-ok : goal.read-returns-in-Bool-clause-ok
read-returns-in-Bool-clause-ok t c =
    let first : c.args.reader.now ≡ token_of c.in-Some.token ∷ c.next.new.self = grind arith in
    let is : c.args.reader.now ≡ Token.boolean c.in-Bool.b ∷ c.next.new.self = grind (arith, first) in
    ap (converted tree_value) (ap (value c.args.depth) is ∙ value_is c.args.depth _) ∙ ap (λ d. Some (d, c.next.new.self)) (sym (node-Bool c.in-Bool.b))

pub read-returns-in-Null-clause-ok : goal.read-returns-in-Null-clause-ok
read-returns-in-Null-clause-ok t c =
    let first : c.args.reader.now ≡ token_of c.in-Some.token ∷ c.next.new.self = grind arith in
    let is : c.args.reader.now ≡ Token.null ∷ c.next.new.self = grind (arith, first) in
    ap (converted tree_value) (ap (value c.args.depth) is ∙ value_is c.args.depth _) ∙ ap (λ d. Some (d, c.next.new.self)) (sym node-Null)

pub read-returns-in_ok-read_list-in-BeginArray-clause-ok : goal.read-returns-in_ok-read_list-in-BeginArray-clause-ok
read-returns-in_ok-read_list-in-BeginArray-clause-ok t c =
    let first : c.args.reader.now ≡ token_of c.in-Some.token ∷ c.next.new.self = grind arith in
    let opened = ap (converted tree_value) (ap (value c.args.depth) (first ∙ ap (λ k. token_of k ∷ c.next.new.self) c.in-BeginArray.is) ∙ value-begin_array c.args.depth c.next.new.self (omega arith)) ∙ converted-array (items (value (c.args.depth - 1)) (length c.next.new.self) c.next.new.self) in
    opened ∙ c.in_ok-read_list-in-BeginArray.ensures.ok

pub read_entry-returns-clause-ok : goal.read_entry-returns-clause-ok
read_entry-returns-clause-ok t c =
    let first : c.args.reader.now ≡ begin_array ∷ c.opens_list.new.reader = grind arith in
    let opened = ap (converted tree_value) (ap (value c.args.depth) first ∙ value-begin_array c.args.depth c.opens_list.new.reader (omega arith)) ∙ converted-array (items (value (c.args.depth - 1)) (length c.opens_list.new.reader) c.opens_list.new.reader) in
    opened ∙ c.in_ok-read_list.ensures.ok

pub read_list-returns-then-take_end_array-clause-ok : goal.read_list-returns-then-take_end_array-clause-ok
read_list-returns-then-take_end_array-clause-ok t c =
    let p = value c.args.depth in
    let ts = c.read_prefix.new.reader in
    let r = c.take_end_array.new.self in
    let before = items_before (gathered c.in_ok-front.front) in
    let ended : after_end_array ts ≡ Some r = grind arith in
    let over = items_over p (length ts) ts r (omega arith) ended in
    ap (parse_map list) (c.in_ok-front.ensures.ok c.args.depth ∙ ap (parse_map before) over ∙ ap (λ ds. Some (ds, r)) (items_before-no_items (gathered c.in_ok-front.front)))
    ∙ ap (λ d. Some (d, r)) (sym c.in_ok-list.ensures)

pub read_list-returns-clause-ok : goal.read_list-returns-clause-ok
read_list-returns-clause-ok t c =
    let r = c.take_end_array.new.self in
    let same : c.read_prefix.new.reader ≡ r = grind arith in
    let all = items (value c.args.depth) (length r) r in
    let front = c.in_ok-front.ensures.ok c.args.depth ∙ ap (λ ts. parse_map (items_before (gathered c.in_ok-front.front)) (converted tree_items (items (value c.args.depth) (length ts) ts))) same in
    let made = ap (λ vs. parse_map (items_before vs) (converted tree_items all)) (sym c.in_ok-found.ensures) in
    let found = front ∙ made ∙ c.in_ok-read_items.ensures.ok (length r) (omega arith) in
    ap (parse_map list) found ∙ ap (λ d. Some (d, c.read_items.new.reader)) (sym (node-List c.in_ok-read_items.field-0))

pub read_pairs-pairs-init : goal.read_pairs-pairs-init
read_pairs-pairs-init t c =
    let all = converted tree_items (items (value c.args.depth) (length c.args.reader.now) c.args.reader.now) in
    (length c.args.reader.now, omega arith, none_before all ∙ ap (λ ps. parse_map (items_before (map pair_view ps)) all) (sym c.new-pairs.ensures.items), omega arith, refl)

pub read_pairs-pairs-preserved : goal.read_pairs-pairs-preserved
read_pairs-pairs-preserved t c =
    let p = value c.args.depth in
    let l = c.pairs in
    let n = l.invariant.0 in
    let before = map pair_view l.pairs.items in
    let going : (after_end_array l.reader ≡ None) × (c.take_end_array.new.self ≡ l.reader) = grind arith in
    let done = c.in_ok-other.ensures in
    let pair : Bor (List ℕ) × Bor (List ℕ) = (c.in-Pair.first, c.in-Pair.second) in
    let r = c.read_entry.new.reader in
    let less : length r < length l.reader = rw (← going.1) done.shorter in
    let seen : node_view c.in_ok-other.other ≡ pair_view pair = ap node_view c.in-Pair.is ∙ node-Pair c.in-Pair.first c.in-Pair.second in
    let turn = item_read p n l.reader r (pair_view pair) (omega (arith, l.invariant.1)) going.0 (ap (λ ts. converted tree_value (p ts)) (sym going.1) ∙ done.ok ∙ ap (λ d. Some (d, r)) seen) in
    let grown : map pair_view c.push.new.self.items ≡ before ++ pair_view pair ∷ [] = ap (map pair_view) (c.in_ok-push-in-Pair.ensures.items) ∙ map_push pair_view l.pairs.items pair in (
      n - 1,
      omega (arith, l.invariant.1),
      l.invariant.2 ∙ ap (parse_map (items_before before)) turn ∙ one_more_item before (pair_view pair) _
          ∙ ap (λ vs. parse_map (items_before vs) (converted tree_items (items p (n - 1) r))) (sym grown),
      omega (arith, l.invariant.3),
      omega (arith, l.invariant.4, done.counted, ap quoted_in going.1),
    )

pub read_pairs-returns-in_default : goal.read_pairs-returns-in_default
read_pairs-returns-in_default t c =
    let p = value c.args.depth in
    let l = c.pairs in
    let n = l.invariant.0 in
    let before = map pair_view l.pairs.items in
    let going : (after_end_array l.reader ≡ None) × (c.take_end_array.new.self ≡ l.reader) = grind arith in
    let done = c.in_ok-other.ensures in
    let v = c.in_ok-other.other in
    let r = c.read_entry.new.reader in
    let less : length r < length l.reader = rw (← going.1) done.shorter in
    let turn = item_read p n l.reader r (node_view v) (omega (arith, l.invariant.1)) going.0 (rw (← going.1) done.ok) in
    let nodes : map node_view c.in_ok-found-in_default.found.items ≡ before = c.in_ok-found-in_default.ensures ∙ ap (map pair_view) c.deref.ensures.value in
    let grown : map node_view c.push-in_default.new.self.items ≡ before ++ node_view v ∷ [] =
    ap (map node_view) (c.in_ok-push-in_default.ensures.items) ∙ map_push node_view c.in_ok-found-in_default.found.items v ∙ ap (λ vs. vs ++ node_view v ∷ []) nodes in
    let rest = c.in_ok-read_items-in_default.ensures in
    let whole = l.invariant.2 ∙ ap (parse_map (items_before before)) turn ∙ one_more_item before (node_view v) _
    ∙ ap (λ vs. parse_map (items_before vs) (converted tree_items (items p (n - 1) r))) (sym grown) ∙ rest.ok (n - 1) (omega (arith, l.invariant.1)) in
    record {
      ok = ap (parse_map list) whole ∙ ap (λ d. Some (d, c.read_items.new.reader)) (sym (node-List c.in_ok-read_items-in_default.field-0));
      counted = omega (arith, l.invariant.4, done.counted, rest.counted, ap quoted_in going.1);
      shorter = omega (arith, l.invariant.3, rest.shorter);
    }

pub read_pairs-returns-clause-ok : goal.read_pairs-returns-clause-ok
read_pairs-returns-clause-ok t c =
    let p = value c.args.depth in
    let l = c.pairs in
    let r = c.take_end_array.new.self in
    let before = map pair_view l.pairs.items in
    let whole = l.invariant.2 ∙ ap (parse_map (items_before before)) (items_over p l.invariant.0 l.reader r l.invariant.1 (grind arith)) ∙ ap (λ ds. Some (ds, r)) (items_before-no_items before) in
    ap (parse_map list) whole ∙ ap (λ d. Some (d, r)) (sym (node-Pairs l.pairs))

pub read_items-items-init : goal.read_items-items-init
read_items-items-init t c = (λ m enough. (m, enough, refl), omega arith, refl)

pub read_items-items-preserved : goal.read_items-items-preserved
read_items-items-preserved t c =
    let p = value c.args.depth in
    let l = c.items in
    let before = map node_view l.found.items in
    let going : (after_end_array l.reader ≡ None) × (c.take_end_array.new.self ≡ l.reader) = grind arith in
    let done = c.in_ok-item.ensures in
    let v = c.in_ok-item.item in
    let r = c.read.new.reader in
    let less : length r < length l.reader = rw (← going.1) done.shorter in
    let grown : map node_view c.push.new.self.items ≡ before ++ node_view v ∷ [] = ap (map node_view) (c.in_ok-push.ensures.items) ∙ map_push node_view l.found.items v in (
      (λ m enough. (
          let so = l.invariant.0 m enough in
          let n = so.0 in
          let turn = item_read p n l.reader r (node_view v) (omega (arith, so.1)) going.0 (rw (← going.1) done.ok) in (
            n - 1,
            omega (arith, so.1),
            so.2 ∙ ap (parse_map (items_before before)) turn ∙ one_more_item before (node_view v) _
                ∙ ap (λ vs. parse_map (items_before vs) (converted tree_items (items p (n - 1) r))) (sym grown),
          )
          )),
      omega (arith, l.invariant.1),
      omega (arith, l.invariant.2, c.in_ok-item.ensures.counted, ap quoted_in going.1),
    )

pub read_items-returns-clause-ok : goal.read_items-returns-clause-ok
read_items-returns-clause-ok t c = λ m enough.
    let p = value c.args.depth in
    let l = c.items in
    let so = l.invariant.0 m enough in
    let r = c.take_end_array.new.self in
    let before = map node_view l.found.items in
    so.2 ∙ ap (parse_map (items_before before)) (items_over p so.0 l.reader r so.1 (grind arith)) ∙ ap (λ ds. Some (ds, r)) (items_before-no_items before)

pub read-returns-in_ok-read_members-in-BeginObject-clause-ok : goal.read-returns-in_ok-read_members-in-BeginObject-clause-ok
read-returns-in_ok-read_members-in-BeginObject-clause-ok t c =
    let first : c.args.reader.now ≡ token_of c.in-Some.token ∷ c.next.new.self = grind arith in
    let opened = ap (converted tree_value) (ap (value c.args.depth) (first ∙ ap (λ k. token_of k ∷ c.next.new.self) c.in-BeginObject.is) ∙ value-begin_object c.args.depth c.next.new.self (omega arith)) ∙ converted-object (members (value (c.args.depth - 1)) (length c.next.new.self) c.next.new.self) in
    let found = c.in_ok-read_members-in-BeginObject in
    opened ∙ ap (parse_map object) found.ensures.ok ∙ ap (λ d. Some (d, c.read_members.new.reader)) (sym (node-Object found.field-0))

pub read_members-members-init : goal.read_members-members-init
read_members-members-init t c =
    let all = members (value c.args.depth) (length c.args.reader.now) c.args.reader.now in
    (length c.args.reader.now, omega arith, ap (λ es. converted (λ ms. tree_members ms (members_of (map node_member_view es))) all) (sym c.new-found.ensures.items), omega arith, refl)

pub read_members-members-preserved : goal.read_members-members-preserved
read_members-members-preserved t c =
    let p = value c.args.depth in
    let l = c.members in
    let n = l.invariant.0 in
    let old = members_of (map node_member_view l.found.items) in
    let k = c.in-Some.name.now in
    let s = c.next_key.new.self in
    let named : read_key l.reader ≡ Some (Some k, s) = grind arith in
    let done = c.in_ok-member.ensures in
    let v = c.in_ok-member.member in
    let r = c.read.new.reader in
    let less = read_key-shorter l.reader (Some k) s named in
    let lesser = done.shorter in
    let behind = key_taken l.reader s (Some k) named in (
      n - 1,
      omega (arith, l.invariant.1),
      l.invariant.2 ∙ member_read p old n k l.reader s r (node_view v) (omega (arith, l.invariant.1)) named done.ok
          ∙ ap (λ found. converted (λ ms. tree_members ms found) (members p (n - 1) r)) (sym c.in_ok-put_member.ensures),
      omega (arith, l.invariant.3),
      omega (arith, l.invariant.4, done.counted, behind),
    )

pub read_members-returns-clause-ok : goal.read_members-returns-clause-ok
read_members-returns-clause-ok t c =
    let p = value c.args.depth in
    let l = c.members in
    let n = l.invariant.0 in
    let old = members_of (map node_member_view l.found.items) in
    l.invariant.2 ∙ members_over p old n l.reader c.next_key.new.self l.invariant.1 (grind arith)
