-- What keeps the index right: a note of a change, one more column, a column that is begun or
-- computed again.
use Rattle.std.proofs.Common.{◌≡◌, ℕ, ◌<◌, ◌≤◌, Bool, true, List, [], ◌∷◌, ◌++◌, length, map, get_or, drop, pos, Option, Some, None, Result, Ok, Err, sym, ap, subst, ◌∙◌, arith}
use Rattle.std.specs.declared.alloc.Global.{Global}
use Rattle.std.specs.declared.boxed.Box.{Box}
use Rattle.std.specs.BTreeMap.{IsOrdered, get, keys, values}
use Rattle.std.specs.Option.{IfSome}
use Rattle.std.specs.Result.{IfOk, result_ok}
use Rattle.std.specs.List.{All, Contains}
use Rattle.std.proofs.lemmas.List.{drop-append-le, get_or-map, get_or_default, length-map, length_push}
use Rattle.std.proofs.lemmas.List.Elements.{All-weaker, Contains-push, Contains-append_left}
use Rattle.mds_geometry.specs.declared.position.Position.{Position}
use Rattle.mds_policy.specs.Policy.{Policy}
use Rattle.mds_match.specs.Row.{Row, row_of}
use Rattle.mds_match.specs.declared.vehicle.Vehicle.{Vehicle}
use Rattle.mds_bitmaps.specs.Masked.{IsMasked, masked_matches}
use Rattle.mds_bitmaps.specs.Masks.{HasBits, IsMask, matches}
use Rattle.mds_bitmaps.specs.declared.matcher.PolicyMatcher.{PolicyMatcher}
use Rattle.mds_verdict.proofs.Numbered.{by_places}
use Rattle.mds_bitmaps.proofs.Counted.{some_in}
use Rattle.mds_bitmaps.proofs.Walking.{found_at, kept_when_read}
use Rattle.mds_bitmaps.specs.Columns.{AreOf}
use Rattle.mds_bitmaps.specs.Index.{AreKept, AreOwn, AreRead, Fits, Grows, IsChanged, IsColumn, IsListed, IsMaskBy, IsMaskOf, IsPublished, IsSince, Published, Vehicles, device_cmp, rows_in}
use Rattle.mds_bitmaps.specs.declared.bitmap_index.BitmapColumn.{BitmapColumn}
use Rattle.mds_bitmaps.specs.declared.bitmap_index.BitmapIndex.{BitmapIndex}

-- cached words of one kind are cached words of another, where the words of each row are
pub kept_as : (Is As : Row → ℕ → Type 0) (vehicles : Vehicles) (devices : List (List ℕ)) (words : List ℕ) (changed : List (List ℕ)) → ((row : Row) (word : ℕ) → Is row word → As row word)
    → AreKept Is vehicles devices words changed → AreKept As vehicles devices words changed
kept_as Is As vehicles devices words changed weaker kept k v less found out = weaker (row_of v.value) (get_or words k 0) (kept k v less found out)

pub read_as : (Is As : Row → ℕ → Type 0) (rows : List Row) (words : List ℕ) → ((row : Row) (word : ℕ) → Is row word → As row word) → AreRead Is rows words → AreRead As rows words
read_as Is As rows words weaker are = record { long = are.long; each = λ k row less. weaker (get_or rows k row) (get_or words k 0) (are.each k row less) }

-- where there are no words, none is wrong
pub none_kept : (Is : Row → ℕ → Type 0) (vehicles : Vehicles) (devices : List (List ℕ)) (changed : List (List ℕ)) → AreKept Is vehicles devices [] changed
none_kept Is vehicles devices changed k v less found out = absurd (omega (arith, less))

-- a note of a device that changed
module _ (device : List ℕ) (before after : Vehicles) (changes : IsChanged device before after) (devices changed : List (List ℕ)) where
  pub noted : (Is : Row → ℕ → Type 0) (words : List ℕ) (seen : ℕ) → seen ≤ length changed → AreKept Is before devices words (drop seen changed) → AreKept Is after devices words (drop seen (changed ++ device ∷ []))
  noted Is words seen short kept k v less found out =
      let here = get_or devices k [] in
      let out' : Contains (drop seen changed ++ device ∷ []) here → ⊥ = λ e. out (subst (λ (xs : List (List ℕ)). Contains xs here) (sym (drop-append-le seen changed (device ∷ []) short)) e) in
      let apart : here ≡ device → ⊥ = λ e. out' (subst (Contains (drop seen changed ++ device ∷ [])) (sym e) (Contains-push (drop seen changed) device)) in
      kept k v less (sym (changes.1 here apart) ∙ found) (λ e. out' (Contains-append_left (drop seen changed) (device ∷ []) here e))

  pub noted_columns : (published : Published) (columns : List BitmapColumn) → All (IsColumn published before devices changed) columns → All (IsColumn published after devices (changed ++ device ∷ [])) columns
  noted_columns published columns are = All-weaker (IsColumn published before devices changed) (IsColumn published after devices (changed ++ device ∷ [])) (λ column is. record {
    lasts = is.lasts;
    seen = omega (arith, length_push changed device, is.seen);
    masks = noted (IsMaskOf published column.policy) column.masks.items column.seen is.seen is.masks;
  }) columns are

-- bitmaps of a policy's rules are those of the published policy, and the other way round
module _ (published : Published) (policy : Policy) (polygons : List ℕ → List (List (List Position))) (is : IsPublished published policy polygons) (id : List ℕ) (id_is : id ≡ policy.id) where
  pub lasts : published.lasting id ≡ true
  lasts = ap published.lasting id_is ∙ is.0

  bits_are : (row : Row) → published.bits id row ≡ map (matches polygons row) policy.rules
  bits_are row = ap (λ i. published.bits i row) id_is ∙ is.1 row

  pub as_asked : (row : Row) (word : ℕ) → IsMaskOf published id row word → IsMask policy polygons row word
  as_asked row word has = subst (λ (bits : List Bool). HasBits bits word) (bits_are row) has

  pub as_published : (row : Row) (word : ℕ) → IsMask policy polygons row word → IsMaskOf published id row word
  as_published row word has = subst (λ (bits : List Bool). HasBits bits word) (sym (bits_are row)) has

some_row : Row
some_row = record { device = []; vehicle_type = []; propulsion = []; state = []; events = []; timestamp = 0; position = record { lng = pos 0; lat = pos 0 }; since = 0 }

module _ (masked : PolicyMatcher) (policy : Policy) (polygons : List ℕ → List (List (List Position))) (is : IsMasked masked policy polygons) where
  pub from_masked : (row : Row) (word : ℕ) → IsMaskBy masked row word → IsMask policy polygons row word
  from_masked row word has = has policy polygons is

  pub few_rules : length policy.rules ≤ 64 → length masked.rules.items ≤ 64
  few_rules few = omega (arith, few, ap length (is some_row), length-map masked.rules.items (masked_matches some_row), length-map policy.rules (matches polygons some_row))

-- the rows of vehicles that are each stored under their own device id
module _ (vehicles : Vehicles) (ordered : IsOrdered device_cmp vehicles) (own : AreOwn vehicles) where
  own_at : (device : List ℕ) (v : Box Vehicle Global) → get device_cmp vehicles device ≡ Some v → v.value.device ≡ device
  own_at device v found = subst (λ o. IfSome o (λ (b : Box Vehicle Global). b.value.device ≡ device)) found (own device)

  pub named : map (λ (row : Row). row.device) (rows_in vehicles) ≡ keys vehicles
  named =
      by_places (λ (row : Row). row.device) (rows_in vehicles) (keys vehicles) (omega (arith, same_length, same_keys)) (λ k row d less. by k row d (omega (arith, less, same_length)))
    where
      same_length : length (rows_in vehicles) ≡ length (values vehicles)
      same_length = length-map (values vehicles) (λ (v : Box Vehicle Global). row_of v.value)

      same_keys : length (keys vehicles) ≡ length (values vehicles)
      same_keys = length-map vehicles.entries (λ (e : List ℕ × Box Vehicle Global). e.0) ∙ sym (length-map vehicles.entries (λ (e : List ℕ × Box Vehicle Global). e.1))

      by : (k : ℕ) (row : Row) (d : List ℕ) → k < length (values vehicles) → (get_or (rows_in vehicles) k row).device ≡ get_or (keys vehicles) k d
      by k row d short =
          let v = get_or (values vehicles) k (some_in (values vehicles) k short) in
          let found = found_at vehicles ordered k (some_in (values vehicles) k short) short in
          ap (λ (r : Row). r.device) (get_or-map (λ (b : Box Vehicle Global). row_of b.value) (values vehicles) k (some_in (values vehicles) k short) row short)
          ∙ own_at (get_or (keys vehicles) k []) v found ∙ get_or_default (keys vehicles) k [] d (omega (arith, short, same_keys))

  pub columns_of : (policy : Policy) (polygons : List ℕ → List (List (List Position))) (devices : List (List ℕ)) (sinces masks : List ℕ) → devices ≡ keys vehicles → AreRead IsSince (rows_in vehicles) sinces
      → AreRead (λ row word. IsMask policy polygons row word) (rows_in vehicles) masks → AreOf policy polygons (rows_in vehicles) devices sinces masks
  columns_of policy polygons devices sinces masks listed since are = record {
    named = listed ∙ sym named;
    since = sym (by_places (λ (row : Row). row.since) (rows_in vehicles) sinces (sym since.long) (λ k row d less. sym (since.each k row less) ∙ get_or_default sinces k 0 d (omega (arith, less, since.long))));
    long = are.long;
    each = are.each;
  }

-- the cached column of the policy that is asked about
pub asked_column : (published : Published) (policy : Policy) (polygons : List ℕ → List (List (List Position))) → IsPublished published policy polygons → (vehicles : Vehicles) (devices changed : List (List ℕ)) (column : BitmapColumn) → column.policy ≡ policy.id
    → IsColumn published vehicles devices changed column → AreKept (λ row word. IsMask policy polygons row word) vehicles devices column.masks.items (drop column.seen changed)
asked_column published policy polygons is vehicles devices changed column id_is kept =
    kept_as (IsMaskOf published column.policy) (λ row word. IsMask policy polygons row word) vehicles devices column.masks.items (drop column.seen changed)
    (as_asked published policy polygons is column.policy id_is) kept.masks

-- a column of that policy, computed again
pub fresh_column : (published : Published) (policy : Policy) (polygons : List ℕ → List (List (List Position))) → IsPublished published policy polygons → (vehicles : Vehicles) → IsOrdered device_cmp vehicles → (devices changed : List (List ℕ)) → devices ≡ keys vehicles
    → (column : BitmapColumn) → column.policy ≡ policy.id → column.seen ≡ length changed → AreRead (λ row word. IsMask policy polygons row word) (rows_in vehicles) column.masks.items → IsColumn published vehicles devices changed column
fresh_column published policy polygons is vehicles ordered devices changed listed column id_is seen are = record {
  lasts = lasts published policy polygons is column.policy id_is;
  seen = omega (arith, seen);
  masks = kept_when_read (IsMaskOf published column.policy) vehicles ordered devices listed column.masks.items
      (read_as (λ row word. IsMask policy polygons row word) (IsMaskOf published column.policy) (rows_in vehicles) column.masks.items (as_published published policy polygons is column.policy id_is) are) (drop column.seen changed);
}

-- a weaker property of an optional value
pub if_some_as : {A : Type 0} (o : Option A) (P Q : A → Type 0) → ((x : A) → P x → Q x) → IfSome o P → IfSome o Q
if_some_as None P Q weaker holds = holds
if_some_as (Some x) P Q weaker holds = weaker x holds

pub if_ok_as : {A E : Type 0} (r : Result A E) (P Q : A → Type 0) → ((x : A) → P x → Q x) → IfOk r P → IfSome (result_ok r) Q
if_ok_as (Ok x) P Q weaker holds = weaker x holds
if_ok_as (Err e) P Q weaker holds = tt

-- the index stays right as more is published
pub grown : (published more : Published) (vehicles : Vehicles) (kept : BitmapIndex) → Grows published more → Fits published vehicles kept → Fits more vehicles kept
grown published more vehicles kept grows fits =
    if_some_as kept.listed (IsListed published vehicles) (IsListed more vehicles) (λ listed is. record {
      devices = is.devices;
      seen = is.seen;
      sinces = is.sinces;
      columns = All-weaker (IsColumn published vehicles listed.devices.items listed.changed.items) (IsColumn more vehicles listed.devices.items listed.changed.items) (λ column of. record {
        lasts = (grows column.policy of.lasts).0;
        seen = of.seen;
        masks = kept_as (IsMaskOf published column.policy) (IsMaskOf more column.policy) vehicles listed.devices.items column.masks.items (drop column.seen listed.changed.items)
            (λ row word has. subst (λ (bits : List Bool). HasBits bits word) (sym ((grows column.policy of.lasts).1 row)) has) of.masks;
      }) listed.columns.items is.columns;
    }) fits
