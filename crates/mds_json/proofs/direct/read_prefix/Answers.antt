use Rattle.std.proofs.Common.{◌≡◌, ℕ, ◌+◌, ◌∷◌, [], None, Some, IfSome, IsNone, length, ap, sym, subst, ◌∙◌, refl}
use Rattle.json.specs.Json.{items, parse_map, value, after_end_array}
use Rattle.serde_json.specs.Read.{converted}
use Rattle.mds_json.specs.Direct.{tree_items, tree_value}
use Rattle.mds_json.specs.Gathered.{items_before, scalar_view}
use Rattle.mds_json.proofs.Turns.{front_read, one_more_item}
use Rattle.mds_json.proofs.direct.read_prefix.Goals as goal

pub returns-in_default-2-clause-ok : goal.returns-in_default-2-clause-ok
returns-in_default-2-clause-ok c = λ depth.
    let ts = c.args.reader.now in
    let r = c.next_scalar.new.reader in
    let going = subst (λ o. IfSome o (λ n. after_end_array ts ≡ None)) c.in-Some.is c.in_ok-first.ensures.going in
    let one = subst (λ o. IfSome o (λ n. length ts ≡ length r + 1)) c.in-Some.is c.in_ok-first.ensures.one in
    let ok = subst (λ o. IfSome o (λ n. (d : ℕ) → converted tree_value (value d ts) ≡ Some (scalar_view n, r))) c.in-Some.is c.in_ok-first.ensures.ok in
    let stays = subst (λ o. IsNone o → (c.next_scalar-2.new.reader ≡ r) × (c.next_scalar-2.new.quoted ≡ c.next_scalar.new.quoted)) c.in_default-2.is c.in_ok-second.ensures.none refl in
    front_read depth (scalar_view c.in-Some.first) ts r going one (ok depth)
    ∙ ap (λ ts. parse_map (items_before (scalar_view c.in-Some.first ∷ [])) (converted tree_items (items (value depth) (length ts) ts))) (sym stays.0)

pub returns-clause-ok : goal.returns-clause-ok
returns-clause-ok c = λ depth.
    let ts = c.args.reader.now in
    let r = c.next_scalar.new.reader in
    let q = c.next_scalar-2.new.reader in
    let going = subst (λ o. IfSome o (λ n. after_end_array ts ≡ None)) c.in-Some.is c.in_ok-first.ensures.going in
    let one = subst (λ o. IfSome o (λ n. length ts ≡ length r + 1)) c.in-Some.is c.in_ok-first.ensures.one in
    let ok = subst (λ o. IfSome o (λ n. (d : ℕ) → converted tree_value (value d ts) ≡ Some (scalar_view n, r))) c.in-Some.is c.in_ok-first.ensures.ok in
    let going-2 = subst (λ o. IfSome o (λ n. after_end_array r ≡ None)) c.in-Some-2.is c.in_ok-second.ensures.going in
    let one-2 = subst (λ o. IfSome o (λ n. length r ≡ length q + 1)) c.in-Some-2.is c.in_ok-second.ensures.one in
    let ok-2 = subst (λ o. IfSome o (λ n. (d : ℕ) → converted tree_value (value d r) ≡ Some (scalar_view n, q))) c.in-Some-2.is c.in_ok-second.ensures.ok in
    let rest = converted tree_items (items (value depth) (length q) q) in
    front_read depth (scalar_view c.in-Some.first) ts r going one (ok depth)
    ∙ ap (parse_map (items_before (scalar_view c.in-Some.first ∷ []))) (front_read depth (scalar_view c.in-Some-2.second) r q going-2 one-2 (ok-2 depth))
    ∙ one_more_item (scalar_view c.in-Some.first ∷ []) (scalar_view c.in-Some-2.second) rest
