-- One more entry of a walk over a map, and words at the indices of devices.
use Rattle.std.proofs.Common.{◌≡◌, ◌⊎◌, ℕ, zero, suc, ◌+◌, ◌<◌, ◌≤◌, Option, None, Some, List, [], ◌∷◌, ◌++◌, length, get_or, set, take, drop, sym, ap, subst, ◌∙◌, inl, inr, arith}
use Rattle.std.specs.declared.alloc.Global.{Global}
use Rattle.std.specs.declared.boxed.Box.{Box}
use Rattle.std.specs.BTreeMap.{IsOrdered, get, keys, values}
use Rattle.std.specs.Cmp.{eq_by_cmp_equiv}
use Rattle.std.specs.List.{Contains}
use Rattle.std.specs.Ordering.{eq_by_cmp}
use Rattle.std.proofs.lemmas.Bool.{cases_eq, cases_order, false≢true}
use Rattle.std.proofs.lemmas.Cmp.{nat_list_cmp_total}
use Rattle.std.proofs.lemmas.Grind.{get_or-set_at}
use Rattle.std.proofs.lemmas.List.{append-nil, get_or_append_left, get_or-set_other, get_or-map, length-map, length-set, drop_more, length_push, take-append-drop}
use Rattle.std.proofs.lemmas.Map.Keys.{IsDistinct-from_sorted, apart_from_distinct}
use Rattle.std.proofs.lemmas.Map.Views.{All-found}
use Rattle.std.proofs.Math.Seq.{get_or-append_seam}
use Rattle.mds_match.specs.Row.{Row, row_of}
use Rattle.mds_match.specs.declared.vehicle.Vehicle.{Vehicle}
use Rattle.mds_bitmaps.specs.Index.{AreKept, AreRead, Vehicles, device_cmp, rows_in}

pub record Next {X : Type 0} (xs : List X) (n : ℕ) (x : X) (rest : List X) : Type 0 where
  pub within : n < length xs
  pub behind : drop (suc n) xs ≡ rest
  pub before : take (suc n) xs ≡ take n xs ++ x ∷ []

pub next : {X : Type 0} (xs : List X) (n : ℕ) (x : X) (rest : List X) → drop n xs ≡ x ∷ rest → Next xs n x rest
next [] zero x rest e = absurd (cc)
next [] (suc n) x rest e = absurd (cc)
next (y ∷ ys) zero x rest e =
    let head : y ≡ x = cc in
    let tail : ys ≡ rest = cc in
    record { within = omega arith; behind = tail; before = ap (λ z. z ∷ []) head }
next (y ∷ ys) (suc n) x rest e =
    let inner = next ys n x rest e in
    record { within = omega (arith, inner.within); behind = inner.behind; before = ap (λ zs. y ∷ zs) inner.before }

pub all_taken : {X : Type 0} (xs : List X) (n : ℕ) → drop n xs ≡ [] → take n xs ≡ xs
all_taken xs n e = sym (append-nil (take n xs)) ∙ ap (λ ys. take n xs ++ ys) (sym e) ∙ take-append-drop n xs

-- a word of a row, where row and word are equal to others
pub at_row : (Is : Row → ℕ → Type 0) (x y : Row) (m n : ℕ) → x ≡ y → m ≡ n → Is y n → Is x m
at_row Is x y m n e f h = subst (λ (z : Row). Is z m) (sym e) (subst (Is y) (sym f) h)

-- one more word
pub read_more : (Is : Row → ℕ → Type 0) (rows : List Row) (words : List ℕ) (row : Row) (word : ℕ) → Is row word → AreRead Is rows words → AreRead Is (rows ++ row ∷ []) (words ++ word ∷ [])
read_more Is rows words row word fresh are = record {
  long = omega (arith, length_push words word, length_push rows row, are.long);
  each = λ k r less. by k r (omega (arith, less, length_push rows row)) (cases_eq k (length rows));
}
  where
    by : (k : ℕ) (r : Row) → k < length rows + 1 → (k ≡ length rows) ⊎ (k ≡ length rows → ⊥) → Is (get_or (rows ++ row ∷ []) k r) (get_or (words ++ word ∷ []) k 0)
    by k r less (inl same) =
        at_row Is _ row _ word (ap (λ n. get_or (rows ++ row ∷ []) n r) same ∙ get_or-append_seam rows row [] r)
        (ap (λ n. get_or (words ++ word ∷ []) n 0) (same ∙ sym are.long) ∙ get_or-append_seam words word [] 0) fresh
    by k r less (inr apart) =
        let inside : k < length rows = omega arith in
        at_row Is _ (get_or rows k r) _ (get_or words k 0) (get_or_append_left rows (row ∷ []) r k inside) (get_or_append_left words (word ∷ []) 0 k (omega (arith, are.long))) (are.each k r inside)

pub not_first : (x k : List ℕ) (rest : List (List ℕ)) → (k ≡ x → ⊥) → (Contains rest k → ⊥) → Contains (x ∷ rest) k → ⊥
not_first x k rest apart out (zero, lt, e) = apart (sym e)
not_first x k rest apart out (suc j, lt, e) = out (j, omega arith, e)

-- an empty list of changed devices has no device
pub none_changed : (device : List ℕ) → Contains [] device → ⊥
none_changed device e = absurd (omega (arith, e.1))

abbrev pub in_some : Box Vehicle Global → Option (Box Vehicle Global) → Box Vehicle Global
in_some v None = v
in_some v (Some x) = x

-- the entry at an index of a map is found by its key
pub found_at : (vehicles : Vehicles) → IsOrdered device_cmp vehicles → (k : ℕ) (d : Box Vehicle Global) → k < length (values vehicles) → get device_cmp vehicles (get_or (keys vehicles) k []) ≡ Some (get_or (values vehicles) k d)
found_at vehicles ordered k d short =
    let within : k < length vehicles.entries = omega (arith, short, length-map vehicles.entries (λ (e : List ℕ × Box Vehicle Global). e.1)) in
    let key : get_or (keys vehicles) k [] ≡ (get_or vehicles.entries k ([], d)).0 = get_or-map (λ (e : List ℕ × Box Vehicle Global). e.0) vehicles.entries k ([], d) [] within in
    let value : get_or (values vehicles) k d ≡ (get_or vehicles.entries k ([], d)).1 = get_or-map (λ (e : List ℕ × Box Vehicle Global). e.1) vehicles.entries k ([], d) d within in
    ap (get device_cmp vehicles) key ∙ All-found nat_list_cmp_total vehicles ordered k ([], d) within ∙ ap Some (sym value)

-- words that are all computed are right, and right words that are complete are as computed
module _ (Is : Row → ℕ → Type 0) (vehicles : Vehicles) (ordered : IsOrdered device_cmp vehicles) (devices : List (List ℕ)) (listed : devices ≡ keys vehicles) (words : List ℕ) where
  same_length : length (rows_in vehicles) ≡ length (values vehicles)
  same_length = length-map (values vehicles) (λ (v : Box Vehicle Global). row_of v.value)

  row_at : (k : ℕ) (v : Box Vehicle Global) (row : Row) → k < length (values vehicles) → get device_cmp vehicles (get_or devices k []) ≡ Some v → get_or (rows_in vehicles) k row ≡ row_of v.value
  row_at k v row short found =
      let here = sym (found_at vehicles ordered k v short) ∙ ap (λ ds. get device_cmp vehicles (get_or ds k [])) (sym listed) ∙ found in
      get_or-map (λ (b : Box Vehicle Global). row_of b.value) (values vehicles) k v row short ∙ ap (λ o. row_of (in_some v o).value) here

  pub kept_when_read : AreRead Is (rows_in vehicles) words → (changed : List (List ℕ)) → AreKept Is vehicles devices words changed
  kept_when_read are changed = λ k v less found out.
      let short : k < length (values vehicles) = omega (arith, less, are.long, same_length) in
      subst (λ (row : Row). Is row (get_or words k 0)) (row_at k v (row_of v.value) short found) (are.each k (row_of v.value) (omega (arith, short, same_length)))

  pub read_when_kept : length words ≡ length (values vehicles) → AreKept Is vehicles devices words [] → AreRead Is (rows_in vehicles) words
  read_when_kept long kept = record {
    long = long ∙ sym same_length;
    each = λ k row less. by k row (omega (arith, less, same_length));
  }
    where
      some_in : {X : Type 0} (xs : List X) (n : ℕ) → n < length xs → X
      some_in [] n h = absurd (omega arith)
      some_in (x ∷ xs) n h = x

      by : (k : ℕ) (row : Row) → k < length (values vehicles) → Is (get_or (rows_in vehicles) k row) (get_or words k 0)
      by k row short =
          let v = get_or (values vehicles) k (some_in (values vehicles) k short) in
          let found = ap (λ ds. get device_cmp vehicles (get_or ds k [])) listed ∙ found_at vehicles ordered k (some_in (values vehicles) k short) short in
          subst (λ (r : Row). Is r (get_or words k 0)) (sym (row_at k v row short found)) (kept k v (omega (arith, short, long)) found (none_changed _))

-- each device has one index
apart_before : (vehicles : Vehicles) → IsOrdered device_cmp vehicles → (j k : ℕ) → j < k → k < length (keys vehicles) → get_or (keys vehicles) j [] ≡ get_or (keys vehicles) k [] → ⊥
apart_before vehicles ordered j k less within e =
    let device = get_or (keys vehicles) j [] in
    let apart = apart_from_distinct (eq_by_cmp device_cmp) (keys vehicles) j k [] (IsDistinct-from_sorted device_cmp (keys vehicles) ordered) less within in
    false≢true (sym apart ∙ ap (eq_by_cmp device_cmp device) (sym e) ∙ (eq_by_cmp_equiv nat_list_cmp_total).refl device)

apart_places : (vehicles : Vehicles) → IsOrdered device_cmp vehicles → (j k : ℕ) → j < length (keys vehicles) → k < length (keys vehicles) → get_or (keys vehicles) j [] ≡ get_or (keys vehicles) k [] → (k ≡ j → ⊥) → ⊥
apart_places vehicles ordered j k inside within e apart = by (cases_order j k)
  where
    by : (j ≡ k) ⊎ ((j < k) ⊎ (k < j)) → ⊥
    by (inl same) = apart (sym same)
    by (inr (inl less)) = apart_before vehicles ordered j k less within e
    by (inr (inr less)) = apart_before vehicles ordered k j less inside (sym e)

-- a changed device without a vehicle has no word
pub not_held : (Is : Row → ℕ → Type 0) (vehicles : Vehicles) (devices changed : List (List ℕ)) (words : List ℕ) (i : ℕ) → i < length changed → get device_cmp vehicles (get_or changed i []) ≡ None
    → AreKept Is vehicles devices words (drop i changed) → AreKept Is vehicles devices words (drop (i + 1) changed)
not_held Is vehicles devices changed words i short absent kept k v less found out =
    let here = get_or devices k [] in
    let apart : here ≡ get_or changed i [] → ⊥ = λ e. let no : None ≡ Some v = sym absent ∙ ap (get device_cmp vehicles) (sym e) ∙ found in absurd (cc) in
    kept k v less found (λ e. not_first (get_or changed i []) here (drop (i + 1) changed) apart out (subst (λ (xs : List (List ℕ)). Contains xs here) (drop_more changed i [] short) e))

-- one more changed device is taken in
module _ (Is : Row → ℕ → Type 0) (vehicles : Vehicles) (ordered : IsOrdered device_cmp vehicles) (devices changed : List (List ℕ)) (listed : devices ≡ keys vehicles) (words : List ℕ) (i : ℕ) (short : i < length changed)
    (kept : AreKept Is vehicles devices words (drop i changed)) (at : ℕ) (here : get_or devices at [] ≡ get_or changed i []) (inside : at < length devices) where
  not_among : (k : ℕ) → k < length devices → (k ≡ at → ⊥) → (Contains (drop (i + 1) changed) (get_or devices k []) → ⊥) → Contains (drop i changed) (get_or devices k []) → ⊥
  not_among k within apart out found =
      let apart_devices : get_or devices k [] ≡ get_or changed i [] → ⊥ = λ e.
      apart_places vehicles ordered at k (rw (sym listed) inside) (rw (sym listed) within) (ap (λ ds. get_or ds at []) (sym listed) ∙ here ∙ sym e ∙ ap (λ ds. get_or ds k []) listed) apart in
      not_first (get_or changed i []) (get_or devices k []) (drop (i + 1) changed) apart_devices out
      (subst (λ (xs : List (List ℕ)). Contains xs (get_or devices k [])) (drop_more changed i [] short) found)

  pub put : (v : Box Vehicle Global) (word : ℕ) → get device_cmp vehicles (get_or changed i []) ≡ Some v → Is (row_of v.value) word → at < length words → length words ≤ length devices → AreKept Is vehicles devices (set words at word) (drop (i + 1) changed)
  put v word held fresh room few k x less found out = by (cases_eq k at)
    where
      less' : k < length words
      less' = omega (arith, less, length-set words at word)

      by : (k ≡ at) ⊎ (k ≡ at → ⊥) → Is (row_of x.value) (get_or (set words at word) k 0)
      by (inl same) =
          let one = sym held ∙ ap (get device_cmp vehicles) (sym here ∙ ap (λ n. get_or devices n []) (sym same)) ∙ found in
          at_row Is _ (row_of v.value) _ word (ap (λ o. row_of (in_some x o).value) (sym one)) (get_or-set_at words at k word 0 same room) fresh
      by (inr apart) =
          subst (Is (row_of x.value)) (sym (get_or-set_other words at k word 0 apart)) (kept k x less' found (not_among k (omega (arith, less', few)) apart out))

  pub beyond : length words ≤ at → length words ≤ length devices → AreKept Is vehicles devices words (drop (i + 1) changed)
  beyond outside few k x less found out = kept k x less found (not_among k (omega (arith, less, few)) (λ e. absurd (omega arith)) out)
