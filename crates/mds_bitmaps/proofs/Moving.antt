-- What keeps the words right where a device comes or goes: the indices of devices and of words move
-- alike.
use Rattle.std.proofs.Common.{◌≡◌, ◌⊎◌, ℕ, zero, suc, ◌+◌, ◌<◌, ◌≤◌, true, false, cond, nat_lt, Some, None, List, [], ◌∷◌, ◌++◌, ◌-◌, length, get_or, drop, refl, sym, ap, subst, ◌∙◌, inl, inr, arith}
use Rattle.std.specs.declared.cmp.Ordering.{Ordering}
use Rattle.std.specs.declared.cmp.Ordering.TheVariants.{Less, Equal, Greater}
use Rattle.std.specs.BTreeMap.{IsOrdered, get, is_at}
use Rattle.std.specs.BTreeSet.{insert_key}
use Rattle.std.specs.Set.{remove_key}
use Rattle.std.specs.Cmp.{IsTotalOrder}
use Rattle.std.specs.List.{All, Contains, insert, remove}
use Rattle.std.specs.List.Sorted.{IsPartitionPoint, IsNonDecreasingBy, IsStrictlySortedBy}
use Rattle.std.specs.Ordering.{is_eq, is_lt, match_ordering, ordering_index, ordering_reverse}
use Rattle.std.proofs.lemmas.Bool.{cases_order}
use Rattle.std.proofs.lemmas.Cmp.{nat_list_cmp_total}
use Rattle.std.proofs.lemmas.List.{append-nil, drop-append-le, drop_all, length_push, take_all}
use Rattle.std.proofs.lemmas.List.Edits.{length-insert, get_or-insert_below, get_or-insert_at, get_or-insert_above, length-remove, get_or-remove_below, get_or-remove_above}
use Rattle.std.proofs.lemmas.List.Elements.{Contains-push, Contains-append_left}
use Rattle.std.proofs.lemmas.List.Sorted.{searchable_from_sorted}
use Rattle.std.proofs.lemmas.Map.Keys.{Less-from_sorted, sorted_tail}
use Rattle.mds_match.specs.Row.{Row, row_of}
use Rattle.mds_bitmaps.specs.Index.{AreEdited, AreKept, HasArrived, HasDeparted, IsColumn, IsListed, IsMaskOf, IsSince, Published, Vehicles, device_cmp, with_place, without_place}
use Rattle.mds_bitmaps.specs.declared.bitmap_index.BitmapColumn.{BitmapColumn}
use Rattle.mds_bitmaps.specs.declared.bitmap_index.IndexedFleet.{IndexedFleet}

-- ---- the index that a search finds in ascending keys

turned : (r : Ordering) (s : Ordering) → s ≡ ordering_reverse r → r ≡ Less → s ≡ Greater
turned r s e less = e ∙ ap ordering_reverse less

module _ {K : Type 0} {R : K → K → Ordering} (o : IsTotalOrder R) where
  pub rising : (ks : List K) (k : K) → IsStrictlySortedBy R ks → IsNonDecreasingBy (λ y. ordering_index (R y k)) ks
  rising ks k sorted = searchable_from_sorted o (λ y. y) ks k (λ j d from within.
      ap is_lt (o.antisymm (get_or ks (j + 1) d) (get_or ks j d) ∙ ap ordering_reverse (Less-from_sorted R ks j (j + 1) d sorted (omega arith) within)))

  -- a key that a search doesn't find is inserted at its index in the order
  pub inserted : (ks : List K) (k : K) (place : ℕ) → place ≤ length ks → IsPartitionPoint (λ y. R y k ≡ Less) (λ y. R y k ≡ Greater) ks place → insert ks place k ≡ insert_key R ks k
  inserted [] k zero within parted = refl
  inserted [] k (suc place) within parted = absurd (omega arith)
  inserted (x ∷ xs) k zero within parted =
      let here : R k x ≡ Less = o.antisymm k x ∙ ap ordering_reverse (parted.1 0 k (omega arith) (omega arith)) in
      sym (ap (λ r. match_ordering r (k ∷ x ∷ xs) (x ∷ xs) (x ∷ insert_key R xs k)) here)
  inserted (x ∷ xs) k (suc place) within parted =
      let here : R k x ≡ Greater = o.antisymm k x ∙ ap ordering_reverse (parted.0 0 k (omega arith) (omega arith)) in
      ap (λ ys. x ∷ ys) (inserted xs k place (omega arith) ((λ j d from below. parted.0 (suc j) d (omega arith) (omega arith)), (λ j d from below. parted.1 (suc j) d (omega arith) (omega arith))))
      ∙ sym (ap (λ r. match_ordering r (k ∷ x ∷ xs) (x ∷ xs) (x ∷ insert_key R xs k)) here)

  -- a key that a search finds is the one that is removed
  pub removed : (ks : List K) (k : K) (place : ℕ) → IsStrictlySortedBy R ks → place < length ks → ((d : K) → R (get_or ks place d) k ≡ Equal) → remove ks place ≡ remove_key (is_at (R k)) ks
  removed [] k place sorted within here = absurd (omega arith)
  removed (x ∷ xs) k zero sorted within here =
      let same : R k x ≡ Equal = o.antisymm k x ∙ ap ordering_reverse (here k) in
      sym (ap (λ r. cond (is_eq r) xs (x ∷ remove_key (is_at (R k)) xs)) same)
  removed (x ∷ xs) k (suc place) sorted within here =
      let y = get_or xs place k in
      let less : R x y ≡ Less = Less-from_sorted R (x ∷ xs) 0 (suc place) k sorted (omega arith) within in
      let above : R y x ≡ Greater = o.antisymm y x ∙ ap ordering_reverse less in
      let apart : R k x ≡ Greater = sym (o.congr y k x (here k)) ∙ above in
      ap (λ ys. x ∷ ys) (removed xs k place (sorted_tail R x xs sorted) (omega arith) here)
      ∙ sym (ap (λ r. cond (is_eq r) xs (x ∷ remove_key (is_at (R k)) xs)) apart)

-- ---- the words

-- words with one more inserted, where they reach so far
module _ (place : ℕ) (words : List ℕ) where
  pub with_reached : place ≤ length words → with_place place words ≡ insert words place 0
  with_reached reach = ap (λ b. cond b words (insert words place 0)) (not_less reach)
    where
      not_less : place ≤ length words → nat_lt (length words) place ≡ false
      not_less h = grind arith

  pub with_short : length words < place → with_place place words ≡ words
  with_short short = ap (λ b. cond b words (insert words place 0)) (is_less short)
    where
      is_less : length words < place → nat_lt (length words) place ≡ true
      is_less h = grind arith

pub remove_past : {X : Type 0} (xs : List X) (place : ℕ) → length xs ≤ place → remove xs place ≡ xs
remove_past xs place past =
    ap (λ ys. ys ++ drop (suc place) xs) (take_all place xs past) ∙ ap (λ ys. xs ++ ys) (drop_all (suc place) xs (omega (arith, past))) ∙ append-nil xs

reaches : (place n : ℕ) → (place ≤ n) ⊎ (n < place)
reaches place n = by (cases_order place n)
  where
    by : (place ≡ n) ⊎ ((place < n) ⊎ (n < place)) → (place ≤ n) ⊎ (n < place)
    by (inl same) = inl (omega (arith, same))
    by (inr (inl less)) = inl (omega (arith, less))
    by (inr (inr past)) = inr past

-- a device came, and is logged
module _ (device : List ℕ) (before after : Vehicles) (others : (other : List ℕ) → (other ≡ device → ⊥) → get device_cmp after other ≡ get device_cmp before other)
    (devices changed : List (List ℕ)) (place : ℕ) (within : place ≤ length devices) (Is : Row → ℕ → Type 0) (words : List ℕ) (seen : ℕ) (short : seen ≤ length changed) where
  pub came : AreKept Is before devices words (drop seen changed) → AreKept Is after (insert devices place device) (with_place place words) (drop seen (changed ++ device ∷ []))
  came kept k v less found out = by (cases_order k place)
    where
      here : List ℕ
      here = get_or (insert devices place device) k []

      apart : here ≡ device → ⊥
      apart e = out (subst (λ (xs : List (List ℕ)). Contains xs here) (sym (drop-append-le seen changed (device ∷ []) short)) (subst (Contains (drop seen changed ++ device ∷ [])) (sym e) (Contains-push (drop seen changed) device)))

      unlogged : Contains (drop seen changed) here → ⊥
      unlogged e = out (subst (λ (xs : List (List ℕ)). Contains xs here) (sym (drop-append-le seen changed (device ∷ []) short)) (Contains-append_left (drop seen changed) (device ∷ []) here e))

      from : (j : ℕ) → j < length words → here ≡ get_or devices j [] → get_or (with_place place words) k 0 ≡ get_or words j 0 → Is (row_of v.value) (get_or (with_place place words) k 0)
      from j inside same word =
          subst (Is (row_of v.value)) (sym word)
          (kept j v inside (sym (others (get_or devices j []) (λ e. apart (same ∙ e))) ∙ ap (get device_cmp after) (sym same) ∙ found) (λ e. unlogged (subst (Contains (drop seen changed)) (sym same) e)))

      below : k < place → (place ≤ length words) ⊎ (length words < place) → Is (row_of v.value) (get_or (with_place place words) k 0)
      below lt (inl reach) =
          from k (omega (arith, lt, reach)) (get_or-insert_below devices place device [] k lt within) (ap (λ (ws : List ℕ). get_or ws k 0) (with_reached place words reach) ∙ get_or-insert_below words place 0 0 k lt reach)
      below lt (inr past) =
          from k (omega (arith, less, ap length (with_short place words past))) (get_or-insert_below devices place device [] k lt within) (ap (λ (ws : List ℕ). get_or ws k 0) (with_short place words past))

      above : (j : ℕ) → k ≡ j + 1 → place ≤ j → (place ≤ length words) ⊎ (length words < place) → Is (row_of v.value) (get_or (with_place place words) k 0)
      above j is le (inl reach) =
          from j (omega (arith, less, is, ap length (with_reached place words reach), length-insert words place 0 reach))
          (ap (λ (n : ℕ). get_or (insert devices place device) n []) is ∙ get_or-insert_above devices place device [] j le within)
          (ap (λ (ws : List ℕ). get_or ws k 0) (with_reached place words reach) ∙ ap (λ (n : ℕ). get_or (insert words place 0) n 0) is ∙ get_or-insert_above words place 0 0 j le reach)
      above j is le (inr past) = absurd (omega (arith, less, ap length (with_short place words past), past, is, le))

      by : (k ≡ place) ⊎ ((k < place) ⊎ (place < k)) → Is (row_of v.value) (get_or (with_place place words) k 0)
      by (inl same) = absurd (apart (ap (λ (n : ℕ). get_or (insert devices place device) n []) same ∙ get_or-insert_at devices place device [] within))
      by (inr (inl lt)) = below lt (reaches place (length words))
      by (inr (inr gt)) = above (k - 1) (omega (arith, gt)) (omega (arith, gt)) (reaches place (length words))

-- a device went
module _ (device : List ℕ) (before after : Vehicles) (gone : get device_cmp after device ≡ None) (others : (other : List ℕ) → (other ≡ device → ⊥) → get device_cmp after other ≡ get device_cmp before other)
    (devices changed : List (List ℕ)) (place : ℕ) (within : place < length devices) (Is : Row → ℕ → Type 0) (words : List ℕ) where
  pub went : AreKept Is before devices words changed → AreKept Is after (remove devices place) (without_place place words) changed
  went kept k v less found out = by (reaches place k)
    where
      here : List ℕ
      here = get_or (remove devices place) k []

      apart : here ≡ device → ⊥
      apart e = let no : None ≡ Some v = sym gone ∙ ap (get device_cmp after) (sym e) ∙ found in absurd (cc)

      from : (j : ℕ) → j < length words → here ≡ get_or devices j [] → get_or (remove words place) k 0 ≡ get_or words j 0 → Is (row_of v.value) (get_or (remove words place) k 0)
      from j inside same word =
          subst (Is (row_of v.value)) (sym word)
          (kept j v inside (sym (others (get_or devices j []) (λ e. apart (same ∙ e))) ∙ ap (get device_cmp after) (sym same) ∙ found) (λ e. out (subst (Contains changed) (sym same) e)))

      below : k < place → (length words ≤ place) ⊎ (place < length words) → Is (row_of v.value) (get_or (remove words place) k 0)
      below lt (inl past) =
          from k (omega (arith, less, ap length (remove_past words place past))) (get_or-remove_below devices place [] k lt within) (ap (λ (ws : List ℕ). get_or ws k 0) (remove_past words place past))
      below lt (inr reach) = from k (omega (arith, lt, reach)) (get_or-remove_below devices place [] k lt within) (get_or-remove_below words place 0 k lt reach)

      above : place ≤ k → (length words ≤ place) ⊎ (place < length words) → Is (row_of v.value) (get_or (remove words place) k 0)
      above le (inl past) = absurd (omega (arith, less, ap length (remove_past words place past), past, le))
      above le (inr reach) = from (k + 1) (omega (arith, less, length-remove words place reach)) (get_or-remove_above devices place [] k le within) (get_or-remove_above words place 0 k le reach)

      by : (place ≤ k) ⊎ (k < place) → Is (row_of v.value) (get_or (remove words place) k 0)
      by (inl le) = above le (reaches (length words) place)
      by (inr lt) = below lt (reaches (length words) place)

-- ---- the columns

-- what is done to each column of a list
pub edited : (P Q : BitmapColumn → Type 0) (edit : List ℕ → List ℕ) (columns others : List BitmapColumn) → AreEdited edit columns others
    → ((column other : BitmapColumn) → other.policy ≡ column.policy → other.seen ≡ column.seen → other.masks.items ≡ edit column.masks.items → P column → Q other) → All P columns → All Q others
edited P Q edit columns others are step all k d within =
    let inside : k < length columns = omega (arith, within, are.long) in
    step (get_or columns k d) (get_or others k d) (are.policies k d inside) (are.seen k d inside) (are.masks k d inside) (all k d inside)

-- the device that came is at its index, and logged
pub listed_more : (device : List ℕ) (before after : Vehicles) → IsOrdered device_cmp before → HasArrived device before after → (published : Published) (listed more : IndexedFleet) (place : ℕ) → place ≤ length listed.devices.items
    → (IsNonDecreasingBy (λ (y : List ℕ). ordering_index (device_cmp y device)) listed.devices.items → IsPartitionPoint (λ y. device_cmp y device ≡ Less) (λ y. device_cmp y device ≡ Greater) listed.devices.items place)
    → more.devices.items ≡ insert listed.devices.items place device → more.sinces.items ≡ with_place place listed.sinces.items → more.seen ≡ listed.seen → AreEdited (with_place place) listed.columns.items more.columns.items
    → more.changed.items ≡ listed.changed.items ++ device ∷ [] → IsListed published before listed → IsListed published after more
listed_more device before after ordered arrives published listed more place within parted devices_are sinces_are seen_is columns_are changed_are is = record {
  devices = devices_are ∙ inserted nat_list_cmp_total devices device place within (parted (rising nat_list_cmp_total devices device sorted)) ∙ ap (λ (ks : List (List ℕ)). insert_key device_cmp ks device) is.devices ∙ sym arrives.0;
  seen = omega (arith, is.seen, seen_is, ap length changed_are, length_push changed device);
  sinces = rw (devices_are, sinces_are, seen_is, changed_are) (came device before after arrives.1 devices changed place within IsSince listed.sinces.items listed.seen is.seen is.sinces);
  columns = edited (IsColumn published before devices changed) (IsColumn published after more.devices.items more.changed.items) (with_place place) listed.columns.items more.columns.items columns_are (λ column other policy_is column_seen masks_are of. record {
    lasts = ap published.lasting policy_is ∙ of.lasts;
    seen = omega (arith, of.seen, column_seen, ap length changed_are, length_push changed device);
    masks = rw (devices_are, changed_are, policy_is, column_seen, masks_are) (came device before after arrives.1 devices changed place within (IsMaskOf published column.policy) column.masks.items column.seen of.seen of.masks);
  }) is.columns;
}
  where
    devices : List (List ℕ)
    devices = listed.devices.items

    changed : List (List ℕ)
    changed = listed.changed.items

    sorted : IsStrictlySortedBy device_cmp devices
    sorted = subst (IsStrictlySortedBy device_cmp) (sym is.devices) ordered

-- the device that went is at no index
pub listed_fewer : (device : List ℕ) (before after : Vehicles) → IsOrdered device_cmp before → HasDeparted device before after → (published : Published) (listed fewer : IndexedFleet) (place : ℕ) → place < length listed.devices.items
    → ((d : List ℕ) → device_cmp (get_or listed.devices.items place d) device ≡ Equal)
    → fewer.devices.items ≡ remove listed.devices.items place → fewer.sinces.items ≡ without_place place listed.sinces.items → fewer.seen ≡ listed.seen → AreEdited (without_place place) listed.columns.items fewer.columns.items
    → fewer.changed.items ≡ listed.changed.items → IsListed published before listed → IsListed published after fewer
listed_fewer device before after ordered departs published listed fewer place within here devices_are sinces_are seen_is columns_are changed_are is = record {
  devices = devices_are ∙ removed nat_list_cmp_total devices device place sorted within here ∙ ap (remove_key (is_at (device_cmp device))) is.devices ∙ sym departs.0;
  seen = omega (arith, is.seen, seen_is, ap length changed_are);
  sinces = rw (devices_are, sinces_are, seen_is, changed_are) (went device before after departs.1 departs.2 devices (drop listed.seen changed) place within IsSince listed.sinces.items is.sinces);
  columns = edited (IsColumn published before devices changed) (IsColumn published after fewer.devices.items fewer.changed.items) (without_place place) listed.columns.items fewer.columns.items columns_are (λ column other policy_is column_seen masks_are of. record {
    lasts = ap published.lasting policy_is ∙ of.lasts;
    seen = omega (arith, of.seen, column_seen, ap length changed_are);
    masks = rw (devices_are, changed_are, policy_is, column_seen, masks_are) (went device before after departs.1 departs.2 devices (drop column.seen changed) place within (IsMaskOf published column.policy) column.masks.items of.masks);
  }) is.columns;
}
  where
    devices : List (List ℕ)
    devices = listed.devices.items

    changed : List (List ℕ)
    changed = listed.changed.items

    sorted : IsStrictlySortedBy device_cmp devices
    sorted = subst (IsStrictlySortedBy device_cmp) (sym is.devices) ordered
