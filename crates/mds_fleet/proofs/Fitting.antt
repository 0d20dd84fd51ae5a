-- An index that is right for vehicles is right for others with the same rows.
use Rattle.std.proofs.Common.{◌≡◌, ℕ, Bool, true, false, cond, List, [], ◌∷◌, get_or, Option, Some, None, refl, sym, ap, subst, ◌∙◌}
use Rattle.std.specs.declared.alloc.Global.{Global}
use Rattle.std.specs.declared.boxed.Box.{Box}
use Rattle.std.specs.BTreeMap as tree
use Rattle.std.specs.BTreeMap.{insert_entry, is_at, keys, IsOrdered}
use Rattle.std.specs.BTreeSet.{insert_key}
use Rattle.std.specs.FinMap as finite
use Rattle.std.specs.Map.{keys_of, remove_entry}
use Rattle.std.specs.Ordering.{match_ordering}
use Rattle.std.specs.Set.{remove_key}
use Rattle.std.specs.declared.cmp.Ordering.{Ordering}
use Rattle.std.specs.declared.cmp.Ordering.TheVariants.{Less, Equal, Greater}
use Rattle.std.proofs.lemmas.List.Elements.{All-weaker}
use Rattle.std.proofs.lemmas.Map.Views.{tells_apart}
use Rattle.mds_match.specs.Row.{Row, row_of}
use Rattle.mds_match.specs.declared.vehicle.Vehicle.{Vehicle}
use Rattle.mds_bitmaps.specs.Index as kept
use Rattle.mds_bitmaps.specs.Index.{AreKept, HasArrived, HasDeparted, IsChanged, IsColumn, IsListed, IsMaskOf, IsSince, Published}
use Rattle.mds_bitmaps.specs.declared.bitmap_index.BitmapIndex.{BitmapIndex}
use Rattle.mds_bitmaps.proofs.Keeping.{if_some_as}
use Rattle.mds_fleet.specs.Books.{device_cmp}
use Rattle.mds_fleet.specs.Fleet.{Fits, Fleet, Vehicles, rows_of}
use Rattle.mds_fleet.proofs.Rows.{Updates, device_exact, get_row, held_row, keys_rows}

-- where one device gets another vehicle or loses its own, the others keep theirs
pub others_same : (old new : Vehicles) (device : List ℕ) (held : Option (Box Vehicle Global)) → Updates old device held new → (other : List ℕ) → (other ≡ device → ⊥) → tree.get device_cmp new other ≡ tree.get device_cmp old other
others_same old new device held updates other away = updates other ∙ by other away (is_at (device_cmp device) other) refl
  where
    by : (other : List ℕ) → (other ≡ device → ⊥) → (b : Bool) → is_at (device_cmp device) other ≡ b → cond b held (tree.get device_cmp old other) ≡ tree.get device_cmp old other
    by other apart true here = absurd (apart (sym (tells_apart device_exact device other here)))
    by other apart false elsewhere = refl

-- one device has another vehicle, and no device came or went
pub changed_one : (old new : Vehicles) (device : List ℕ) (held : Option (Box Vehicle Global)) → Updates old device held new → keys new ≡ keys old → IsChanged device old new
changed_one old new device held updates same = (same, others_same old new device held updates)

-- the keys of the entries with one more, or one fewer
keys_with : {X : Type 0} (es : List (List ℕ × X)) (key : List ℕ) (value : X) → keys_of (insert_entry device_cmp es key value) ≡ insert_key device_cmp (keys_of es) key
keys_with [] key value = refl
keys_with (e ∷ es) key value = by (device_cmp key e.0) (keys_with es key value)
  where
    by : (r : Ordering) → keys_of (insert_entry device_cmp es key value) ≡ insert_key device_cmp (keys_of es) key
        → keys_of (match_ordering r ((key, value) ∷ e ∷ es) ((e.0, value) ∷ es) (e ∷ insert_entry device_cmp es key value)) ≡ match_ordering r (key ∷ e.0 ∷ keys_of es) (e.0 ∷ keys_of es) (e.0 ∷ insert_key device_cmp (keys_of es) key)
    by Less h = refl
    by Equal h = refl
    by Greater h = ap (λ (ks : List (List ℕ)). e.0 ∷ ks) h

keys_without : {X : Type 0} (test : List ℕ → Bool) (es : List (List ℕ × X)) → keys_of (remove_entry test es) ≡ remove_key test (keys_of es)
keys_without test [] = refl
keys_without test (e ∷ es) = by (test e.0) (keys_without test es)
  where
    by : (b : Bool) → keys_of (remove_entry test es) ≡ remove_key test (keys_of es) → keys_of (cond b es (e ∷ remove_entry test es)) ≡ cond b (keys_of es) (e.0 ∷ remove_key test (keys_of es))
    by true h = refl
    by false h = ap (λ (ks : List (List ℕ)). e.0 ∷ ks) h

-- a device came
pub arrived_one : (old new : Vehicles) (device : List ℕ) (vehicle : Box Vehicle Global) → Updates old device (Some vehicle) new → new.entries ≡ insert_entry device_cmp old.entries device vehicle → HasArrived device old new
arrived_one old new device vehicle updates entries = (ap keys_of entries ∙ keys_with old.entries device vehicle, others_same old new device (Some vehicle) updates)

-- a device went
pub departed_one : (old new : Vehicles) (device : List ℕ) → Updates old device None new → tree.get device_cmp new device ≡ None → new.entries ≡ remove_entry (is_at (device_cmp device)) old.entries → HasDeparted device old new
departed_one old new device updates gone entries = (ap keys_of entries ∙ keys_without (is_at (device_cmp device)) old.entries, gone, others_same old new device None updates)

module _ (old new : Vehicles) (old_ordered : IsOrdered device_cmp old) (new_ordered : IsOrdered device_cmp new) (same : rows_of old ≡ rows_of new) where
  same_keys : keys old ≡ keys new
  same_keys = sym (keys_rows old old_ordered) ∙ ap finite.keys same ∙ keys_rows new new_ordered

  same_held : (device : List ℕ) → held_row (tree.get device_cmp old device) ≡ held_row (tree.get device_cmp new device)
  same_held device = sym (get_row old device) ∙ ap (λ rows. finite.get rows device) same ∙ get_row new device

  moved : (Is : Row → ℕ → Type 0) (devices : List (List ℕ)) (words : List ℕ) (changed : List (List ℕ)) → AreKept Is old devices words changed → AreKept Is new devices words changed
  moved Is devices words changed are k v less found out =
      by (tree.get device_cmp old here) refl (same_held here ∙ ap held_row found)
    where
      here : List ℕ
      here = get_or devices k []

      by : (held : Option (Box Vehicle Global)) → tree.get device_cmp old here ≡ held → held_row held ≡ Some (row_of v.value) → Is (row_of v.value) (get_or words k 0)
      by None is row = absurd (cc)
      by (Some u) is row = subst (λ r. Is r (get_or words k 0)) (let e : row_of u.value ≡ row_of v.value = cc in e) (are k u less is out)

  pub same_fit : (published : Published) (what : BitmapIndex) → kept.Fits published old what → kept.Fits published new what
  same_fit published what fits =
      if_some_as what.listed (IsListed published old) (IsListed published new) (λ listed is. record {
        devices = is.devices ∙ same_keys;
        seen = is.seen;
        sinces = moved IsSince listed.devices.items listed.sinces.items _ is.sinces;
        columns = All-weaker (IsColumn published old listed.devices.items listed.changed.items) (IsColumn published new listed.devices.items listed.changed.items) (λ column of. record {
          lasts = of.lasts;
          seen = of.seen;
          masks = moved (IsMaskOf published column.policy) listed.devices.items column.masks.items _ of.masks;
        }) listed.columns.items is.columns;
      }) fits

-- an index that is right for the vehicles of a book is right for the book
pub fits_book : (published : Published) (vehicles : Vehicles) (fleet : Fleet) → IsOrdered device_cmp vehicles → rows_of vehicles ≡ fleet.rows → kept.Fits published vehicles fleet.kept → Fits published fleet
fits_book published vehicles fleet ordered are fits others rises same =
    same_fit vehicles others ordered rises (are ∙ sym same) published fleet.kept fits
