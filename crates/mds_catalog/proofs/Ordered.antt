-- Lists that ascend by identifier: what a search finds in them, and the list after an insertion at the index found.
use Rattle.std.proofs.Common.{◌≡◌, ℕ, zero, suc, ◌+◌, ◌-◌, ◌<◌, ◌≤◌, Bool, true, false, cond, List, [], ◌∷◌, ◌++◌, length, map, find, get_or, Option, Some, None, option_map, Result, Ok, Err, IfOk, IfErr, OnErr, is_ok, bytes_eq, inl, inr, refl, sym, ap, subst, ◌∙◌, arith}
use Rattle.std.specs.Option.{option_or, option_map_or}
use Rattle.std.proofs.lemmas.List.Folds.{find-append}
use Rattle.std.proofs.Common.{length-append}
use Rattle.std.specs.declared.cmp.Ordering.{Ordering}
use Rattle.std.specs.declared.cmp.Ordering.TheVariants.{Less, Equal, Greater}
use Rattle.std.specs.Ordering.{ordering_index, ordering_reverse}
use Rattle.std.specs.Cmp.{IsTotalOrder, tied_itself, alike_right}
use Rattle.std.specs.Cmp.Lexicographic.{nat_list_cmp_total}
use Rattle.std.specs.FinMap.{IsAntisymmetric, slice_cmp-IsAntisymmetric, nat_cmp-IsAntisymmetric}
use Rattle.std.specs.List.{insert}
use Rattle.std.specs.List.Sorted.{IsSearchInRange, IsBinarySearchResult, IsNonDecreasingBy}
use Rattle.std.proofs.lemmas.Bool.{cases_lt, false≢true}
use Rattle.std.proofs.lemmas.List.{length-map}
use Rattle.std.proofs.lemmas.List.Edits.{length-insert, get_or-insert_below, get_or-insert_at, get_or-insert_above}
use Rattle.std.proofs.lemmas.Slice.Eq.{bytes_eq-Decides}
use Rattle.mds_catalog.specs.Listed.{id_cmp, has, Ascends, IsAt, IsGap, Lists}

total : IsTotalOrder id_cmp
total = nat_list_cmp_total

exact : IsAntisymmetric id_cmp
exact = slice_cmp-IsAntisymmetric nat_cmp-IsAntisymmetric

-- identifiers that differ in the order aren't equal
apart : (x y : List ℕ) (r : Ordering) → id_cmp x y ≡ r → (r ≡ Equal → false ≡ true) → bytes_eq x y ≡ false
apart x y r is other = elim (bytes_eq x y) as (λ b. bytes_eq x y ≡ b → b ≡ false) [
  | true ↦ λ same. absurd (false≢true (other (sym is ∙ ap (λ z. id_cmp z y) ((bytes_eq-Decides x y).0 same) ∙ tied_itself total y)))
  | false ↦ λ same. refl
] refl

apart_less : (x y : List ℕ) → id_cmp x y ≡ Less → bytes_eq x y ≡ false
apart_less x y is = apart x y Less is (λ e. cc)

apart_greater : (x y : List ℕ) → id_cmp x y ≡ Greater → bytes_eq x y ≡ false
apart_greater x y is = apart x y Greater is (λ e. cc)

same_bytes : (x y : List ℕ) → x ≡ y → bytes_eq x y ≡ true
same_bytes x y e = (bytes_eq-Decides x y).1 e

index_at_most : (r : Ordering) → ordering_index r ≤ 2
index_at_most Less = omega arith
index_at_most Equal = omega arith
index_at_most Greater = omega arith

index_rises : (x y k : List ℕ) → id_cmp x y ≡ Less → ordering_index (id_cmp x k) ≤ ordering_index (id_cmp y k)
index_rises x y k less =
    elim (id_cmp y k) as (λ r. id_cmp y k ≡ r → ordering_index (id_cmp x k) ≤ ordering_index r) [
      | Less ↦ λ e. rw (total.trans x y k less e) (omega arith)
      | Equal ↦ λ e. rw (sym (alike_right total y k x e) ∙ less) (omega arith)
      | Greater ↦ λ e. index_at_most (id_cmp x k)
    ] refl

module _ {A : Type 0} (id : A → List ℕ) where
  -- an element with another identifier is skipped
  pub next : (key : List ℕ) (x : A) (xs : List A) → bytes_eq (id x) key ≡ false → find (has id key) (x ∷ xs) ≡ find (has id key) xs
  next key x xs other = ap (λ b. cond b (Some x) (find (has id key) xs)) other

  pub first : (key : List ℕ) (x : A) (xs : List A) → bytes_eq (id x) key ≡ true → find (has id key) (x ∷ xs) ≡ Some x
  first key x xs same = ap (λ b. cond b (Some x) (find (has id key) xs)) same

  found_here : (key : List ℕ) (xs : List A) (at : ℕ) (d : A) → at < length xs → ((j : ℕ) → j < at → bytes_eq (id (get_or xs j d)) key ≡ false) → id (get_or xs at d) ≡ key → find (has id key) xs ≡ Some (get_or xs at d)
  found_here key [] at d within before here = absurd (omega arith)
  found_here key (x ∷ xs) zero d within before here = first key x xs (same_bytes _ _ here)
  found_here key (x ∷ xs) (suc at) d within before here =
      next key x xs (before zero (omega arith)) ∙ found_here key xs at d (omega arith) (λ j lt. before (suc j) (omega arith)) here

  found_nowhere : (key : List ℕ) (xs : List A) → ((j : ℕ) (d : A) → j < length xs → bytes_eq (id (get_or xs j d)) key ≡ false) → find (has id key) xs ≡ None
  found_nowhere key [] other = refl
  found_nowhere key (x ∷ xs) other = next key x xs (other zero x (omega arith)) ∙ found_nowhere key xs (λ j d lt. other (suc j) d (omega arith))

  -- the element with the identifier is found
  pub find_at : (xs : List A) (key : List ℕ) (at : ℕ) (d : A) → Ascends id xs → IsAt id xs key at → find (has id key) xs ≡ Some (get_or xs at d)
  find_at xs key at d up place =
      found_here key xs at d place.within (λ j lt. apart_less (id (get_or xs j d)) key (ap (id_cmp (id (get_or xs j d))) (sym (place.here d)) ∙ up j at d lt place.within)) (place.here d)

  -- nothing is found at an identifier that has no element
  pub find_gap : (xs : List A) (key : List ℕ) (at : ℕ) → IsGap id xs key at → find (has id key) xs ≡ None
  find_gap xs key at gap = found_nowhere key xs (λ j d within. elim (cases_lt j at) [
    | inl lt ↦ apart_less (id (get_or xs j d)) key (gap.before j d lt)
    | inr le ↦ apart_greater (id (get_or xs j d)) key (gap.after j d le within)
  ])

  -- inserting an element whose identifier isn't found
  or_none : {B : Type 0} (o : Option B) → o ≡ option_or o None
  or_none None = refl
  or_none (Some x) = refl

  at_front : (key : List ℕ) (x : A) (xs : List A) (b : Bool) → (b ≡ true → find (has id key) xs ≡ None) → cond b (Some x) (find (has id key) xs) ≡ option_or (find (has id key) xs) (cond b (Some x) None)
  at_front key x xs true none = sym (ap (λ o. option_or o (Some x)) (none refl))
  at_front key x xs false none = or_none (find (has id key) xs)

  behind : (key : List ℕ) (x y : A) (o p : Option A) (b : Bool) → (b ≡ false → o ≡ option_or p (cond (has id key x) (Some x) None)) → cond b (Some y) o ≡ option_or (cond b (Some y) p) (cond (has id key x) (Some x) None)
  behind key x y o p true h = refl
  behind key x y o p false h = h refl

  pub find_insert : (key : List ℕ) (x : A) (xs : List A) (at : ℕ) → at ≤ length xs → (has id key x ≡ true → find (has id key) xs ≡ None) → find (has id key) (insert xs at x) ≡ option_or (find (has id key) xs) (find (has id key) (x ∷ []))
  find_insert key x xs zero within none = at_front key x xs (has id key x) none
  find_insert key x [] (suc at) within none = absurd (omega arith)
  find_insert key x (y ∷ ys) (suc at) within none =
      behind key x y (find (has id key) (insert ys at x)) (find (has id key) ys) (has id key y)
      (λ other. find_insert key x ys at (omega arith) (λ same. sym (next key y ys other) ∙ none same))

  -- inserting in the gap keeps the order
  pub ascends_insert : (xs : List A) (x : A) (at : ℕ) → Ascends id xs → IsGap id xs (id x) at → Ascends id (insert xs at x)
  ascends_insert xs x at up gap i j d lt within =
      let n = length-insert xs at x gap.within in
      elim (cases_lt j at) [
        | inl j_below ↦
            (λ k. id_cmp (id (get_or-insert_below xs at x d i (omega arith) gap.within k)) (id (get_or-insert_below xs at x d j j_below gap.within k)))
            ∙ up i j d lt (omega (arith, gap.within))
        | inr j_not_below ↦ elim (cases_lt at j) [
          | inr j_at ↦
              let same : j ≡ at = omega arith in
              (λ k. id_cmp (id (get_or-insert_below xs at x d i (omega arith) gap.within k)) (id (get_or (insert xs at x) (same k) d)))
              ∙ ap (λ y. id_cmp (id (get_or xs i d)) (id y)) (get_or-insert_at xs at x d gap.within)
              ∙ gap.before i d (omega arith)
          | inl j_above ↦
              let below : (j - 1) + 1 ≡ j = omega arith in
              let here : get_or (insert xs at x) j d ≡ get_or xs (j - 1) d = ap (λ k. get_or (insert xs at x) k d) (sym below) ∙ get_or-insert_above xs at x d (j - 1) (omega arith) gap.within in
              elim (cases_lt i at) [
                | inl i_below ↦
                    (λ k. id_cmp (id (get_or-insert_below xs at x d i i_below gap.within k)) (id (here k)))
                    ∙ up i (j - 1) d (omega arith) (omega (arith, n))
                | inr i_not_below ↦ elim (cases_lt at i) [
                  | inr i_at ↦
                      let same : i ≡ at = omega arith in
                      (λ k. id_cmp (id (get_or (insert xs at x) (same k) d)) (id (here k)))
                      ∙ ap (λ y. id_cmp (id y) (id (get_or xs (j - 1) d))) (get_or-insert_at xs at x d gap.within)
                      ∙ total.antisymm (id x) (id (get_or xs (j - 1) d)) ∙ ap ordering_reverse (gap.after (j - 1) d (omega arith) (omega (arith, n)))
                  | inl i_above ↦
                      let below' : (i - 1) + 1 ≡ i = omega arith in
                      let here' : get_or (insert xs at x) i d ≡ get_or xs (i - 1) d = ap (λ k. get_or (insert xs at x) k d) (sym below') ∙ get_or-insert_above xs at x d (i - 1) (omega arith) gap.within in
                      (λ k. id_cmp (id (here' k)) (id (here k))) ∙ up (i - 1) (j - 1) d (omega arith) (omega (arith, n))
                ]
              ]
        ]
      ]

  -- one more element, in its gap
  pub lists_inserted : (xs : List A) (x : A) (at : ℕ) → Ascends id xs → IsGap id xs (id x) at → Lists id xs (insert xs at x) (x ∷ [])
  lists_inserted xs x at up gap = record {
    ascends = ascends_insert xs x at up gap;
    found = λ key. find_insert key x xs at gap.within (λ same. ap (λ k. find (has id k) xs) (sym ((bytes_eq-Decides (id x) key).0 same)) ∙ find_gap xs (id x) at gap);
    few = omega (arith, length-insert xs at x gap.within);
  }

  -- one whose identifier is already in the list
  stays_found : (key : List ℕ) (xs : List A) (x y : A) (b : Bool) → (b ≡ true → find (has id key) xs ≡ Some y) → find (has id key) xs ≡ option_or (find (has id key) xs) (cond b (Some x) None)
  stays_found key xs x y true is = is refl ∙ sym (ap (λ o. option_or o (Some x)) (is refl))
  stays_found key xs x y false is = or_none (find (has id key) xs)

  pub lists_known : (xs : List A) (x : A) (at : ℕ) → Ascends id xs → IsAt id xs (id x) at → Lists id xs xs (x ∷ [])
  lists_known xs x at up place = record {
    ascends = up;
    found = λ key. stays_found key xs x (get_or xs at x) (has id key x) (λ same. ap (λ k. find (has id k) xs) (sym ((bytes_eq-Decides (id x) key).0 same)) ∙ find_at xs (id x) at x up place);
    few = omega arith;
  }

  -- no further element
  pub lists_none : (xs : List A) → Ascends id xs → Lists id xs xs []
  lists_none xs up = record { ascends = up; found = λ key. or_none (find (has id key) xs); few = omega arith }

  or_assoc : {B : Type 0} (a b c : Option B) → option_or (option_or a b) c ≡ option_or a (option_or b c)
  or_assoc None b c = refl
  or_assoc (Some x) b c = refl

  -- one more element after others
  pub lists_more : (xs ys zs ms : List A) (x : A) → Lists id xs ys ms → Lists id ys zs (x ∷ []) → Lists id xs zs (ms ++ x ∷ [])
  lists_more xs ys zs ms x before step = record {
    ascends = step.ascends;
    found = λ key. step.found key ∙ ap (λ o. option_or o (find (has id key) (x ∷ []))) (before.found key)
        ∙ or_assoc (find (has id key) xs) (find (has id key) ms) (find (has id key) (x ∷ []))
        ∙ ap (option_or (find (has id key) xs)) (sym (find-append (has id key) ms (x ∷ [])));
    few = omega (arith, step.few, before.few, length-append ms (x ∷ []));
  }

  -- elements that keep their identifiers
  ids_kept : (f : A → A) → ((x : A) → id (f x) ≡ id x) → (xs : List A) (i : ℕ) (d : A) → id (get_or (map f xs) i d) ≡ id (get_or xs i d)
  ids_kept f keeps [] i d = refl
  ids_kept f keeps (x ∷ xs) zero d = keeps x
  ids_kept f keeps (x ∷ xs) (suc i) d = ids_kept f keeps xs i d

  pub ascends_map : (f : A → A) → ((x : A) → id (f x) ≡ id x) → (xs : List A) → Ascends id xs → Ascends id (map f xs)
  ascends_map f keeps xs up i j d lt within =
      (λ k. id_cmp (ids_kept f keeps xs i d k) (ids_kept f keeps xs j d k)) ∙ up i j d lt (omega (arith, length-map xs f))

  -- what is found has the identifier
  pub found_has : (key : List ℕ) (xs : List A) (x : A) → find (has id key) xs ≡ Some x → id x ≡ key
  found_has key [] x is = absurd (cc)
  found_has key (y ∷ ys) x is =
      elim (bytes_eq (id y) key) as (λ b. bytes_eq (id y) key ≡ b → cond b (Some y) (find (has id key) ys) ≡ Some x → id x ≡ key) [
        | true ↦ λ same e. ap (λ o. option_map_or id o key) (sym e) ∙ (bytes_eq-Decides (id y) key).0 same
        | false ↦ λ same e. found_has key ys x e
      ] refl is

  rise : (xs : List A) (key : List ℕ) → Ascends id xs → IsNonDecreasingBy (λ x. ordering_index (id_cmp (id x) key)) xs
  rise xs key up i j d le within = elim (cases_lt i j) [
    | inl less ↦ index_rises (id (get_or xs i d)) (id (get_or xs j d)) key (up i j d less within)
    | inr ge ↦
        let same : i ≡ j = omega arith in
        subst (λ n. ordering_index (id_cmp (id (get_or xs i d)) key) ≤ ordering_index (id_cmp (id (get_or xs n d)) key)) same (omega arith)
  ]

  -- the result of a binary search by identifier
  pub searched : (xs : List A) (key : List ℕ) → Ascends id xs → (r : Result ℕ ℕ) → IsSearchInRange r (length xs) → IsBinarySearchResult (λ x. id_cmp (id x) key) xs r → record { found : IfOk r (IsAt id xs key); gap : IfErr r (IsGap id xs key) }
  searched xs key up (Ok at) in_range equal = record { found = record { within = in_range; here = λ d. exact _ key (equal d) }; gap = tt }
  searched xs key up (Err at) in_range parted = record {
    found = tt;
    gap = record {
      within = in_range;
      before = λ j d lt. (parted (rise xs key up)).0 j d (omega arith) lt;
      after = λ j d le lt. (parted (rise xs key up)).1 j d le lt;
    };
  }

-- a search among elements that are made of others with the same identifiers
pub find-map : {A B : Type 0} (id : A → List ℕ) (id' : B → List ℕ) (f : A → B) → ((x : A) → id' (f x) ≡ id x) → (key : List ℕ) (xs : List A) → find (has id' key) (map f xs) ≡ option_map f (find (has id key) xs)
find-map id id' f keeps key [] = refl
find-map id id' f keeps key (x ∷ xs) =
    ap (λ k. cond (bytes_eq k key) (Some (f x)) (find (has id' key) (map f xs))) (keeps x)
    ∙ elim (bytes_eq (id x) key) as (λ b. cond b (Some (f x)) (find (has id' key) (map f xs)) ≡ option_map f (cond b (Some x) (find (has id key) xs))) [
      | true ↦ refl
      | false ↦ find-map id id' f keeps key xs
    ]

-- an insertion with room doesn't fail
pub inserted : {X E : Type 0} {cap len : ℕ} (r : Result X E) → len < cap → OnErr r (cap ≤ len) → is_ok r ≡ true
inserted (Ok x) room full = refl
inserted (Err e) room full = absurd (omega (arith, full))
