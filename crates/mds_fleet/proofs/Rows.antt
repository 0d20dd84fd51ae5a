-- Vehicles by device id, as rows.
use Rattle.std.proofs.Common.{◌≡◌, ◌≢◌, ℕ, ◌≤◌, ◌<◌, ◌+◌, Bool, true, false, cond, nat_lt, ◌&&◌, T, inl, inr, List, [], ◌∷◌, length, map, Option, Some, None, Result, Ok, Err, IfSome, refl, sym, ap, subst, ◌∙◌, arith}
use Rattle.std.specs.declared.cmp.Ordering.{Ordering}
use Rattle.std.specs.declared.cmp.Ordering.TheVariants.{Less, Equal, Greater}
use Rattle.std.specs.declared.alloc.Global.{Global}
use Rattle.std.specs.declared.boxed.Box.{Box}
use Rattle.std.specs.Ordering.{is_lt, eq_by_cmp}
use Rattle.std.specs.Cmp.{IsTotalOrder, eq_by_cmp_equiv}
use Rattle.std.specs.Cmp.Lexicographic.{nat_list_cmp_total}
use Rattle.std.specs.List.{All, AllByRecursion}
use Rattle.std.specs.List.Sorted.{IsStrictlySortedBy}
use Rattle.std.specs.Option.{option_map}
use Rattle.std.specs.Map.{lookup, keys_of}
use Rattle.std.specs.BTreeMap as tree
use Rattle.std.specs.BTreeMap.{is_at, btree_map_len, IsOrdered}
use Rattle.std.specs.FinMap as finite
use Rattle.std.specs.FinMap.{IsAntisymmetric, slice_cmp-IsAntisymmetric, nat_cmp-IsAntisymmetric, find, is_sorted, from_sorted, entries, entries-from_sorted, get-from_entries, get-from_sorted, get-insert, get-remove, len-entries, same_map}
use Rattle.std.specs.FinMap.Entries.{below_all}
use Rattle.std.proofs.lemmas.Bool.{false≢true}
use Rattle.std.proofs.lemmas.List.{length-map}
use Rattle.std.proofs.lemmas.List.Elements.{All-head, All-tail, All-weaker}
use Rattle.std.proofs.lemmas.Map.Views.{All-found, tells_apart}
use Rattle.mds_match.specs.declared.vehicle.Vehicle.{Vehicle}
use Rattle.mds_match.specs.Row.{Row, row_of}
use Rattle.mds_fleet.specs.declared.book.Taken.{Taken}
use Rattle.mds_fleet.specs.declared.book.Taken.TheVariants.{New, Changed, Same}
use Rattle.mds_fleet.specs.declared.book.BookFault.{BookFault}
use Rattle.mds_fleet.specs.declared.book.BookFault.TheVariants.{Stale, FleetFull, NoMemory}
use Rattle.mds_fleet.specs.Books.{Report, Rows, device_cmp, is_same, outcome, outcome_at, reported, row_after, row_from, rows_after, Take}
use Rattle.mds_fleet.specs.Fleet.{Vehicles, rows_of, IsKept}
use Rattle.mds_fleet.proofs.Determined.{past, take_of_case, less}

pub device_total : IsTotalOrder device_cmp
device_total = nat_list_cmp_total

pub device_exact : IsAntisymmetric device_cmp
device_exact = slice_cmp-IsAntisymmetric nat_cmp-IsAntisymmetric

pub map_map : {A B C : Type 0} (f : A → B) (g : B → C) (xs : List A) → map g (map f xs) ≡ map (λ x. g (f x)) xs
map_map f g [] = refl
map_map f g (x ∷ xs) = ap (λ rest. g (f x) ∷ rest) (map_map f g xs)

pub is_true : (b : Bool) → T b → b ≡ true
is_true true h = refl
is_true false h = absurd h

and_left : (a b : Bool) → (a && b) ≡ true → a ≡ true
and_left true b h = refl
and_left false b h = h

and_right : (a b : Bool) → (a && b) ≡ true → b ≡ true
and_right true b h = h
and_right false b h = cc

both : (a b : Bool) → T a → T b → T (a && b)
both true b p q = q
both false b p q = p

lt_Less : (r : Ordering) → is_lt r ≡ true → r ≡ Less
lt_Less Less h = refl
lt_Less Equal h = cc
lt_Less Greater h = cc

-- sorted entries have strictly rising keys
pub rising_keys : (es : List (List ℕ × Row)) → is_sorted device_cmp es ≡ true → IsStrictlySortedBy device_cmp (map (λ e. e.0) es)
unfolding IsStrictlySortedBy
rising_keys [] sorted = tt
rising_keys (e ∷ es) sorted = (above e.0 es (and_left _ _ sorted), rising_keys es (and_right _ _ sorted))
  where
    above : (k : List ℕ) (es : List (List ℕ × Row)) → below_all device_cmp k es ≡ true → AllByRecursion (λ y. device_cmp k y ≡ Less) (map (λ e. e.0) es)
    above k [] h = tt
    above k (e ∷ es) h = (lt_Less _ (and_left _ _ h), above k es (and_right _ _ h))

abbrev pub entry : List ℕ × Box Vehicle Global → List ℕ × Row
entry e = (e.0, row_of e.1.value)

-- and entries with strictly rising keys are sorted
sorted_entries : (es : List (List ℕ × Box Vehicle Global)) → IsStrictlySortedBy device_cmp (keys_of es) → T (is_sorted device_cmp (map entry es))
unfolding IsStrictlySortedBy
sorted_entries [] rise = tt
sorted_entries (e ∷ es) rise = both _ _ (below e.0 es rise.0) (sorted_entries es rise.1)
  where
    below : (k : List ℕ) (es : List (List ℕ × Box Vehicle Global)) → AllByRecursion (λ y. device_cmp k y ≡ Less) (keys_of es) → T (below_all device_cmp k (map entry es))
    below k [] h = tt
    below k (e ∷ es) h = both _ _ (subst (λ r. T (is_lt r)) (sym h.0) tt) (below k es h.1)

-- ---- the row of a device

abbrev pub held_row : Option (Box Vehicle Global) → Option Row
held_row held = option_map (λ v. row_of v.value) held

held_if : (b : Bool) (held other : Option (Box Vehicle Global)) → held_row (cond b held other) ≡ cond b (held_row held) (held_row other)
held_if true held other = refl
held_if false held other = refl

find_row : (es : List (List ℕ × Box Vehicle Global)) (device : List ℕ) → find device_cmp device (map entry es) ≡ held_row (lookup (is_at (device_cmp device)) es)
find_row [] device = refl
find_row (e ∷ es) device =
    ap (cond (is_at (device_cmp device) e.0) (Some (row_of e.1.value))) (find_row es device) ∙ sym (held_if (is_at (device_cmp device) e.0) (Some e.1) (lookup (is_at (device_cmp device)) es))

pub get_row : (vehicles : Vehicles) (device : List ℕ) → finite.get (rows_of vehicles) device ≡ held_row (tree.get device_cmp vehicles device)
get_row vehicles device = get-from_entries device_total (map entry vehicles.entries) device ∙ find_row vehicles.entries device

-- `new` has this vehicle for the device, or none for it, and for each other device what `old` has
abbrev pub Updates : Vehicles → List ℕ → Option (Box Vehicle Global) → Vehicles → Type 0
Updates old device held new =
    (other : List ℕ) → tree.get device_cmp new other ≡ cond (is_at (device_cmp device) other) held (tree.get device_cmp old other)

module _ (old new : Vehicles) (device : List ℕ) where
  get_updated : (held : Option (Box Vehicle Global)) → Updates old device held new → (other : List ℕ) → finite.get (rows_of new) other ≡ cond (eq_by_cmp device_cmp other device) (held_row held) (finite.get (rows_of old) other)
  get_updated held updates other =
      get_row new other ∙ ap held_row (updates other) ∙ held_if (is_at (device_cmp device) other) held _
      ∙ (λ i. cond ((eq_by_cmp_equiv device_total).symm device other i) (held_row held) (sym (get_row old other) i))

  pub inserted_row : (vehicle : Box Vehicle Global) → Updates old device (Some vehicle) new → rows_of new ≡ finite.insert (rows_of old) device (row_of vehicle.value)
  inserted_row vehicle updates = same_map device_total device_exact _ _ (λ other. get_updated (Some vehicle) updates other ∙ sym (get-insert device_total (rows_of old) device _ other))

  pub removed_row : Updates old device None new → rows_of new ≡ finite.remove (rows_of old) device
  removed_row updates = same_map device_total device_exact _ _ (λ other. get_updated None updates other ∙ sym (get-remove device_total (rows_of old) device other))

-- ---- all rows

-- the vehicle's own id is its key
abbrev IsOwn : List ℕ × Box Vehicle Global → Type 0
IsOwn e = e.1.value.device ≡ e.0

same_devices : (es : List (List ℕ × Box Vehicle Global)) → All IsOwn es → map (λ e. e.1.value.device) es ≡ keys_of es
same_devices [] own = refl
same_devices (e ∷ es) own = λ i. All-head IsOwn e es own i ∷ same_devices es (All-tail IsOwn e es own) i

module _ (vehicles : Vehicles) (ordered : IsOrdered device_cmp vehicles) where
  pub entries_rows : entries (rows_of vehicles) ≡ map entry vehicles.entries
  entries_rows =
      ap entries (same_map device_total device_exact (rows_of vehicles) (from_sorted (map entry vehicles.entries)) (λ device.
      get-from_entries device_total _ device ∙ sym (get-from_sorted device_cmp _ device (sorted_entries _ ordered))))
      ∙ entries-from_sorted device_cmp _ (sorted_entries _ ordered)

  pub rows_len : finite.len (rows_of vehicles) ≡ btree_map_len vehicles
  rows_len = len-entries _ ∙ ap length entries_rows ∙ length-map vehicles.entries entry

  -- the rows in their order are the vehicles' rows
  pub values_rows : finite.values (rows_of vehicles) ≡ map (λ b. row_of b.value) (tree.values vehicles)
  values_rows = ap (map (λ e. e.1)) entries_rows ∙ map_map entry (λ e. e.1) vehicles.entries ∙ sym (map_map (λ e. e.1) (λ b. row_of b.value) vehicles.entries)

  pub keys_rows : finite.keys (rows_of vehicles) ≡ tree.keys vehicles
  keys_rows = ap (map (λ e. e.0)) entries_rows ∙ map_map entry (λ e. e.0) vehicles.entries

  -- where each vehicle has its own id as its key, the ids of the vehicles are the keys
  pub own_keys : ((device : List ℕ) → IfSome (tree.get device_cmp vehicles device) (λ v. v.value.device ≡ device)) → map (λ b. b.value.device) (tree.values vehicles) ≡ tree.keys vehicles
  own_keys own =
      map_map (λ e. e.1) (λ b. b.value.device) vehicles.entries
      ∙ same_devices vehicles.entries (All-weaker (λ e. tree.get device_cmp vehicles e.0 ≡ Some e.1) IsOwn (λ e found. subst (λ (held : Option (Box Vehicle Global)). IfSome held (λ v. v.value.device ≡ e.0)) found (own e.0)) vehicles.entries (All-found device_total vehicles ordered))

-- ---- the limit and the ids after a change

own_kept : (old new : Vehicles) (device : List ℕ) (held : Option (Box Vehicle Global)) → Updates old device held new → IfSome held (λ v. v.value.device ≡ device) → ((other : List ℕ) → IfSome (tree.get device_cmp old other) (λ v. v.value.device ≡ other)) → (other : List ℕ) → IfSome (tree.get device_cmp new other) (λ v. v.value.device ≡ other)
own_kept old new device held updates here own other =
    subst (λ (found : Option (Box Vehicle Global)). IfSome found (λ v. v.value.device ≡ other)) (sym (updates other)) (by (is_at (device_cmp device) other) refl)
  where
    by : (b : Bool) → is_at (device_cmp device) other ≡ b → IfSome (cond b held (tree.get device_cmp old other)) (λ v. v.value.device ≡ other)
    by true same = subst (λ k. IfSome held (λ v. v.value.device ≡ k)) (tells_apart device_exact device other same) here
    by false apart = own other

pub removed_kept : (limit : ℕ) (old new : Vehicles) (device : List ℕ) → Updates old device None new → IsOrdered device_cmp new → btree_map_len new ≤ btree_map_len old → IsKept limit old → IsKept limit new
removed_kept limit old new device updates ordered fewer kept =
    record { ordered = ordered; own = own_kept old new device None updates tt kept.own; within = omega (arith, fewer, kept.within) }

-- ---- a report of a device with a row

-- a report of a device with a row isn't `New`
abbrev is_new_one : Result Taken BookFault → Bool
is_new_one (Ok New) = true
is_new_one other = false

either : (b : Bool) (x y : Result Taken BookFault) → is_new_one x ≡ false → is_new_one y ≡ false → is_new_one (cond b x y) ≡ false
either true x y p q = p
either false x y p q = q

held_not_new : (row : Row) (held limit : ℕ) (report : Report) → is_new_one (outcome_at (Some row) held limit report) ≡ false
held_not_new row held limit report =
    either (nat_lt report.timestamp row.timestamp) (Err Stale) _ refl (either (is_same (reported row) report) (Ok Same) (Ok Changed) refl refl)

pub never_new : (row : Row) (held limit : ℕ) (report : Report) (r : Result Taken BookFault) → r ≡ outcome_at (Some row) held limit report → r ≡ Ok New → ⊥
never_new row held limit report r outcome new = false≢true (sym (held_not_new row held limit report) ∙ ap is_new_one (sym outcome ∙ new))

-- inserting the row that is there changes nothing
same_row : (rows : Rows) (device : List ℕ) (row : Row) → finite.get rows device ≡ Some row → finite.insert rows device row ≡ rows
same_row rows device row held = same_map device_total device_exact _ _ (λ other. get-insert device_total rows device row other ∙ by other (eq_by_cmp device_cmp other device) refl)
  where
    by : (other : List ℕ) (b : Bool) → eq_by_cmp device_cmp other device ≡ b → cond b (Some row) (finite.get rows other) ≡ finite.get rows other
    by other true same = sym held ∙ ap (finite.get rows) (sym (tells_apart device_exact other device same))
    by other false apart = refl

module _ (old new : Vehicles) (report : Report) (before after : Box Vehicle Global) (held : tree.get device_cmp old report.device ≡ Some before) (updates : Updates old report.device (Some after) new) where
  row_held : finite.get (rows_of old) report.device ≡ Some (row_of before.value)
  row_held = get_row old report.device ∙ ap held_row held

  abbrev pub ByOutcome : Result Taken BookFault → Type 0
  ByOutcome r =
      record {
        changed : r ≡ Ok Changed → row_of after.value ≡ row_after (Some (row_of before.value)) report;
        others : r ≢ Ok Changed → row_of after.value ≡ row_of before.value;
      }

  unchanged : row_of after.value ≡ row_of before.value → rows_of new ≡ rows_of old
  unchanged same = inserted_row old new report.device after updates ∙ ap (finite.insert (rows_of old) report.device) same ∙ same_row (rows_of old) report.device _ row_held

  -- an update of the vehicle of a device with a row is an outcome of `Take`
  pub take_held : (limit moment : ℕ) (r : Result Taken BookFault) → report.timestamp ≤ moment → ByOutcome r → r ≡ outcome_at (Some (row_of before.value)) (finite.len (rows_of old)) limit report → Take (rows_of old) limit report moment r (rows_of new)
  take_held limit moment r is_past rows is = (inl (is ∙ sym (past (rows_of old) limit report moment is_past _ row_held)), by r rows is)
    where
      by : (r : Result Taken BookFault) → ByOutcome r → r ≡ outcome_at (Some (row_of before.value)) (finite.len (rows_of old)) limit report → rows_of new ≡ rows_after (rows_of old) report r
      by (Ok Changed) rows is =
          inserted_row old new report.device after updates ∙ ap (finite.insert (rows_of old) report.device) (rows.changed refl)
          ∙ ap (λ o. finite.insert (rows_of old) report.device (row_after o report)) (sym row_held)
      by (Ok New) rows is = absurd (false≢true (sym (ap is_new_one is ∙ held_not_new (row_of before.value) (finite.len (rows_of old)) limit report)))
      by (Ok Same) rows is = unchanged (rows.others (λ e. absurd (cc)))
      by (Err fault) rows is = unchanged (rows.others (λ e. absurd (cc)))

  pub held_kept : (limit : ℕ) (r : Result Taken BookFault) → ByOutcome r → IsOrdered device_cmp new → btree_map_len new ≡ btree_map_len old → IsKept limit old → IsKept limit new
  held_kept limit r rows rises same kept = record {
    ordered = rises;
    own = own_kept old new report.device (Some after) updates (by r rows) kept.own;
    within = omega (arith, same, kept.within);
  }
    where
      own_before : before.value.device ≡ report.device
      own_before = subst (λ (found : Option (Box Vehicle Global)). IfSome found (λ v. v.value.device ≡ report.device)) held (kept.own report.device)

      by : (r : Result Taken BookFault) → ByOutcome r → after.value.device ≡ report.device
      by (Ok Changed) rows = ap (λ (row : Row). row.device) (rows.changed refl)
      by (Ok New) rows = ap (λ (row : Row). row.device) (rows.others (λ e. absurd (cc))) ∙ own_before
      by (Ok Same) rows = ap (λ (row : Row). row.device) (rows.others (λ e. absurd (cc))) ∙ own_before
      by (Err fault) rows = ap (λ (row : Row). row.device) (rows.others (λ e. absurd (cc))) ∙ own_before

-- ---- a report of a further device

module _ (old : Vehicles) (ordered : IsOrdered device_cmp old) (report : Report) (absent : tree.get device_cmp old report.device ≡ None) (limit moment : ℕ) (is_past : report.timestamp ≤ moment) where
  row_absent : finite.get (rows_of old) report.device ≡ None
  row_absent = get_row old report.device ∙ ap held_row absent

  pub take_full : limit ≤ btree_map_len old → Take (rows_of old) limit report moment (Err FleetFull) (rows_of old)
  take_full full = take_of_case (rows_of old) limit report moment (Err FleetFull) (rows_of old) (is_past, row_absent, rw (rows_len old ordered) full, refl) (λ e. absurd (cc))

  module _ (room : btree_map_len old < limit) where
    -- the outcome for a further device below the limit is `New`
    is_new : outcome (rows_of old) limit report moment ≡ Ok New
    is_new = past (rows_of old) limit report moment is_past None row_absent ∙ ap (λ b. cond b (Ok New) (Err FleetFull)) (less _ _ (rw (rows_len old ordered) room))

    pub take_refused : (r : Result Taken BookFault) → r ≡ Err NoMemory → Take (rows_of old) limit report moment r (rows_of old)
    take_refused r none = (inr (none, is_new), ap (rows_after (rows_of old) report) (sym none))

    module _ (new : Vehicles) (vehicle : Box Vehicle Global) (is : row_of vehicle.value ≡ row_from report report.timestamp) (updates : Updates old report.device (Some vehicle) new) where
      pub take_new : Take (rows_of old) limit report moment (Ok New) (rows_of new)
      take_new = take_of_case (rows_of old) limit report moment (Ok New) (rows_of new) (
        record { past = is_past; absent = row_absent; room = rw (rows_len old ordered) room },
        inserted_row old new report.device vehicle updates ∙ ap (finite.insert (rows_of old) report.device) is,
      ) (λ e. absurd (cc))

      pub new_kept : IsOrdered device_cmp new → btree_map_len new ≡ btree_map_len old + 1 → IsKept limit old → IsKept limit new
      new_kept rises more kept = record {
        ordered = rises;
        own = own_kept old new report.device (Some vehicle) updates (ap (λ (row : Row). row.device) is) kept.own;
        within = omega (arith, more, room);
      }
