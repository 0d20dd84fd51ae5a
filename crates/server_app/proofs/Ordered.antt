-- Identifiers that are inserted in their order one after another, and the keys of a map that is made so.
use Rattle.std.proofs.Common.{◌≡◌, ℕ, ◌+◌, ◌<◌, suc, zero, List, [], ◌∷◌, ◌++◌, length, get_or, drop, map, Option, Some, None, Result, Ok, Err, IfOk, refl, sym, ap, ◌∙◌, arith, add-one, drop-cons}
use Rattle.std.specs.declared.cmp.Ordering.{Ordering}
use Rattle.std.specs.declared.cmp.Ordering.TheVariants.{Less, Equal, Greater}
use Rattle.std.specs.Cmp.Lexicographic.{nat_list_cmp_total}
use Rattle.std.specs.List.{cons_option, filter_map}
use Rattle.std.specs.Ordering.{match_ordering}
use Rattle.std.specs.BTreeMap.{insert_entry}
use Rattle.std.specs.FinMap.{FinMap, keys, entries, insert, empty, entries-insert, from_entries, len-empty, len-entries, put}
use Rattle.std.specs.FinMap.Entries.{by_order}
use Rattle.mds_policy.specs.Policy.{Policy}
use Rattle.mds_geography.specs.Geography.{Geography}
use Rattle.mds_text.specs.declared.draft_kind.DraftKind.{DraftKind}
use Rattle.mds_text.specs.declared.draft_kind.DraftKind.TheVariants as kinds
use Rattle.mds_drafts.specs.declared.draft.Draft.{Draft}
use Rattle.mds_drafts.specs.declared.draft.Draft.TheVariants as drafts
use Rattle.mds_drafts.specs.Drafts.{id_cmp}
use Rattle.mds_drafts.specs.Entries.{document_of, drafts_in, policy_entry, geography_entry}
use Rattle.server_app.specs.DraftList.{ids_of, own_id}

-- identifiers with one more in its order
abbrev pub placed : List ℕ → List (List ℕ) → List (List ℕ)
placed k [] = k ∷ []
placed k (x ∷ xs) = by_order (id_cmp k x) (k ∷ x ∷ xs) (x ∷ xs) (x ∷ placed k xs)

-- those of a list, the last one first
abbrev pub all_placed : List (List ℕ) → List (List ℕ)
all_placed [] = []
all_placed (id ∷ ids) = placed id (all_placed ids)

keys_put : {X : Type 0} (k : List ℕ) (v : X) (es : List (List ℕ × X)) → map (λ e. e.0) (put id_cmp k v es) ≡ placed k (map (λ e. e.0) es)
keys_put k v [] = refl
keys_put k v (e ∷ es) =
    elim (id_cmp k e.0) as (λ r. map (λ x. x.0) (by_order r ((k, v) ∷ e ∷ es) ((e.0, v) ∷ es) (e ∷ put id_cmp k v es))
    ≡ by_order r (k ∷ e.0 ∷ map (λ x. x.0) es) (e.0 ∷ map (λ x. x.0) es) (e.0 ∷ placed k (map (λ x. x.0) es))) [
      | Less ↦ refl
      | Equal ↦ refl
      | Greater ↦ ap (λ ks. e.0 ∷ ks) (keys_put k v es)
    ]

-- the keys of a map after an insertion
pub keys_inserted : {X : Type 0} (k : List ℕ) (v : X) (es : List (List ℕ × X)) → map (λ e. e.0) (insert_entry id_cmp es k v) ≡ placed k (map (λ e. e.0) es)
keys_inserted k v [] = refl
keys_inserted k v (e ∷ es) =
    elim (id_cmp k e.0) as (λ r. map (λ x. x.0) (match_ordering r ((k, v) ∷ e ∷ es) ((e.0, v) ∷ es) (e ∷ insert_entry id_cmp es k v))
    ≡ by_order r (k ∷ e.0 ∷ map (λ x. x.0) es) (e.0 ∷ map (λ x. x.0) es) (e.0 ∷ placed k (map (λ x. x.0) es))) [
      | Less ↦ refl
      | Equal ↦ refl
      | Greater ↦ ap (λ ks. e.0 ∷ ks) (keys_inserted k v es)
    ]

nothing : {A : Type 0} (xs : List A) → length xs ≡ 0 → xs ≡ []
nothing [] is = refl
nothing (x ∷ xs) is = absurd (omega arith)

keys_from : {X : Type 0} (es : List (List ℕ × X)) → keys (from_entries {R = id_cmp} es) ≡ all_placed (map (λ e. e.0) es)
keys_from {X} [] = ap (map (λ e. e.0)) (nothing (entries (empty {X = X} {R = id_cmp})) (sym (len-entries (empty {X = X} {R = id_cmp})) ∙ len-empty id_cmp X))
keys_from (e ∷ es) =
    ap (map (λ x. x.0)) (entries-insert nat_list_cmp_total (from_entries es) e.0 e.1)
    ∙ keys_put e.0 e.1 (entries (from_entries {R = id_cmp} es))
    ∙ ap (placed e.0) (keys_from es)

-- the identifiers of the drafts of a kind, in the drafts' order
abbrev pub own_ids : DraftKind → List Draft → List (List ℕ)
own_ids kind items = filter_map (λ d. own_id kind (document_of d)) items

policy_ids : (items : List Draft) → map (λ e. e.0) (filter_map policy_entry items) ≡ own_ids kinds.Policy items
policy_ids [] = refl
policy_ids (drafts.Policy share ∷ items) = ap (λ (ids : List (List ℕ)). cons_option (own_id kinds.Policy (document_of (drafts.Policy share))) ids) (policy_ids items)
policy_ids (drafts.Geography share ∷ items) = policy_ids items

geography_ids : (items : List Draft) → map (λ e. e.0) (filter_map geography_entry items) ≡ own_ids kinds.Geography items
geography_ids [] = refl
geography_ids (drafts.Policy share ∷ items) = geography_ids items
geography_ids (drafts.Geography share ∷ items) = ap (λ (ids : List (List ℕ)). cons_option (own_id kinds.Geography (document_of (drafts.Geography share))) ids) (geography_ids items)

-- the listed identifiers are those, in their order
pub ids_are : (kind : DraftKind) (items : List Draft) → all_placed (own_ids kind items) ≡ ids_of (drafts_in items) kind
ids_are kinds.Policy items = sym (keys_from (filter_map policy_entry items) ∙ ap all_placed (policy_ids items))
ids_are kinds.Geography items = sym (keys_from (filter_map geography_entry items) ∙ ap all_placed (geography_ids items))

from_here : (items : List Draft) (i : ℕ) (d : Draft) → i < length items → d ≡ get_or items i d → drop i items ≡ d ∷ drop (i + 1) items
from_here items i d within here = rw (add-one, drop-cons items i d) (ap (λ y. y ∷ drop (suc i) items) (sym here))

with_own : (kind : DraftKind) (items : List Draft) (i : ℕ) (d : Draft) (o : Option (List ℕ)) → i < length items → d ≡ get_or items i d → own_id kind (document_of d) ≡ o
    → own_ids kind (drop i items) ≡ cons_option o (own_ids kind (drop (i + 1) items))
with_own kind items i d o within here is =
    ap (own_ids kind) (from_here items i d within here) ∙ ap (λ x. cons_option x (own_ids kind (drop (i + 1) items))) is

-- one more draft from the back: of this kind
pub one_placed : (kind : DraftKind) (items : List Draft) (i : ℕ) (d : Draft) (id : List ℕ) (old new : List (List ℕ × Unit {0})) → i < length items → d ≡ get_or items i d
    → own_id kind (document_of d) ≡ Some id → map (λ e. e.0) old ≡ all_placed (own_ids kind (drop (i + 1) items)) → new ≡ insert_entry id_cmp old id tt
    → map (λ e. e.0) new ≡ all_placed (own_ids kind (drop i items))
one_placed kind items i d id old new within here is was grown =
    ap (map (λ e. e.0)) grown ∙ keys_inserted id tt old ∙ ap (placed id) was ∙ sym (ap all_placed (with_own kind items i d (Some id) within here is))

-- of another kind
pub none_placed : (kind : DraftKind) (items : List Draft) (i : ℕ) (d : Draft) (old : List (List ℕ × Unit {0})) → i < length items → d ≡ get_or items i d
    → own_id kind (document_of d) ≡ None → map (λ e. e.0) old ≡ all_placed (own_ids kind (drop (i + 1) items))
    → map (λ e. e.0) old ≡ all_placed (own_ids kind (drop i items))
none_placed kind items i d old within here is was =
    was ∙ sym (ap all_placed (with_own kind items i d None within here is))

pub ok_same : {A B E : Type 0} (see : A → B) (result : Result A E) (x y : B) → x ≡ y → IfOk result (λ a. see a ≡ x) → IfOk result (λ a. see a ≡ y)
ok_same see (Ok a) x y same is = is ∙ same
ok_same see (Err e) x y same is = tt
