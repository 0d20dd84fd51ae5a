-- Entries with one more publication: from when on their policies are superseded and withdrawn.
use Rattle.std.proofs.Common.{◌≡◌, ℕ, nat_le, ◌&&◌, ◌||◌, Bool, true, false, cond, min, max, List, [], ◌∷◌, Option, Some, None, is_some, length, map, find, bytes_eq, refl, sym, ap, ◌∙◌, arith}
use Rattle.std.specs.List.{flat_map, list_any}
use Rattle.std.specs.Option.{option_or, option_map, option_map_or}
use Rattle.std.proofs.Math.Bool.{or-false}
use Rattle.std.proofs.lemmas.Bool.{false≢true}
use Rattle.std.proofs.lemmas.Bool.Decides.{nat_tests}
use Rattle.std.proofs.lemmas.List.{length-map}
use Rattle.std.proofs.lemmas.List.Folds.{list_any-append}
use Rattle.mds_policy.specs.Policy.{Policy}
use Rattle.mds_catalog.specs.declared.document_index.DocumentSpot.{DocumentSpot}
use Rattle.mds_catalog.specs.declared.policy_index.PolicyEntry.{PolicyEntry}
use Rattle.mds_catalog.specs.Publication.{dated, is_among, supersedes}
use Rattle.mds_catalog.specs.Listed.{Ascends, Lists, has}
use Rattle.mds_catalog.specs.Index.{after_successors, after_superseding, after_withdrawal, fresh, has_come}
use Rattle.mds_catalog.proofs.Ordered.{ascends_map, find-map, found_has}

abbrev entry_id : PolicyEntry → List ℕ
entry_id e = e.spot.id

-- the entry with an identifier
abbrev pub entry : List PolicyEntry → List ℕ → Option PolicyEntry
entry es key = find (has entry_id key) es

-- the entry has such a moment, and it has come
abbrev pub is_come : (PolicyEntry → Option ℕ) → List PolicyEntry → ℕ → List ℕ → Bool
is_come moment es t key = option_map_or (λ e. has_come t (moment e)) (entry es key) false

superseded_spot : (m : ℕ) (ids : List (List ℕ)) (e : PolicyEntry) → (after_superseding m ids e).spot ≡ e.spot
superseded_spot m ids e = elim (is_among ids e.spot.id) as (λ b. (cond b (record e { superseded = Some (option_map_or (min m) e.superseded m) }) e).spot ≡ e.spot) [ true ↦ refl | false ↦ refl ]

withdrawn_spot : (m : ℕ) (ids : List (List ℕ)) (e : PolicyEntry) → (after_withdrawal m ids e).spot ≡ e.spot
withdrawn_spot m ids e = elim (is_among ids e.spot.id) as (λ b. (cond b (record e { withdrawn = Some (option_map_or (min m) e.withdrawn m) }) e).spot ≡ e.spot) [ true ↦ refl | false ↦ refl ]

superseding_withdraws : (m : ℕ) (ids : List (List ℕ)) (e : PolicyEntry) → (after_superseding m ids e).withdrawn ≡ e.withdrawn
superseding_withdraws m ids e = elim (is_among ids e.spot.id) as (λ b. (cond b (record e { superseded = Some (option_map_or (min m) e.superseded m) }) e).withdrawn ≡ e.withdrawn) [ true ↦ refl | false ↦ refl ]

withdrawal_supersedes : (m : ℕ) (ids : List (List ℕ)) (e : PolicyEntry) → (after_withdrawal m ids e).superseded ≡ e.superseded
withdrawal_supersedes m ids e = elim (is_among ids e.spot.id) as (λ b. (cond b (record e { withdrawn = Some (option_map_or (min m) e.withdrawn m) }) e).superseded ≡ e.superseded) [ true ↦ refl | false ↦ refl ]

-- the least of moments, with one more
le_min : (m w t : ℕ) → nat_le (min m w) t ≡ (nat_le w t || nat_le m t && true)
le_min m w t = grind (arith, nat_tests)

le_max : (m w t : ℕ) → nat_le (max m w) t ≡ (nat_le m t && nat_le w t)
le_max m w t = grind (arith, nat_tests)

with_one : (t m : ℕ) (known : Option ℕ) → nat_le (option_map_or (min m) known m) t ≡ (has_come t known || nat_le m t && true)
with_one t m None = elim (nat_le m t) as (λ b. b ≡ (false || b && true)) [ true ↦ refl | false ↦ refl ]
with_one t m (Some w) = le_min m w t

without : (x a : Bool) → x ≡ (x || a && false)
without true a = refl
without false true = refl
without false false = refl

superseded_come : (t m : ℕ) (ids : List (List ℕ)) (e : PolicyEntry) → has_come t (after_superseding m ids e).superseded ≡ (has_come t e.superseded || nat_le m t && is_among ids e.spot.id)
superseded_come t m ids e = elim (is_among ids e.spot.id) as (λ b. has_come t (cond b (record e { superseded = Some (option_map_or (min m) e.superseded m) }) e).superseded ≡ (has_come t e.superseded || nat_le m t && b)) [
  | true ↦ with_one t m e.superseded
  | false ↦ without (has_come t e.superseded) (nat_le m t)
]

withdrawn_come : (t m : ℕ) (ids : List (List ℕ)) (e : PolicyEntry) → has_come t (after_withdrawal m ids e).withdrawn ≡ (has_come t e.withdrawn || nat_le m t && is_among ids e.spot.id)
withdrawn_come t m ids e = elim (is_among ids e.spot.id) as (λ b. has_come t (cond b (record e { withdrawn = Some (option_map_or (min m) e.withdrawn m) }) e).withdrawn ≡ (has_come t e.withdrawn || nat_le m t && b)) [
  | true ↦ with_one t m e.withdrawn
  | false ↦ without (has_come t e.withdrawn) (nat_le m t)
]

module _ (f : PolicyEntry → PolicyEntry) (keeps : (e : PolicyEntry) → (f e).spot ≡ e.spot) where
  keeps_id : (e : PolicyEntry) → (f e).spot.id ≡ e.spot.id
  keeps_id e = ap (λ (s : DocumentSpot). s.id) (keeps e)

  pub mapped : (es : List PolicyEntry) (key : List ℕ) → entry (map f es) key ≡ option_map f (entry es key)
  mapped es key = find-map entry_id entry_id f keeps_id key es

  pub spot_stays : (es : List PolicyEntry) (key : List ℕ) → option_map (λ (e : PolicyEntry). e.spot) (entry (map f es) key) ≡ option_map (λ (e : PolicyEntry). e.spot) (entry es key)
  spot_stays es key =
      ap (option_map (λ (e : PolicyEntry). e.spot)) (mapped es key)
      ∙ elim (entry es key) as (λ o. option_map (λ (e : PolicyEntry). e.spot) (option_map f o) ≡ option_map (λ (e : PolicyEntry). e.spot) o) [ None ↦ refl | Some e ↦ ap Some (keeps e) ]

  -- a moment that `f` leaves alone
  pub come_stays : (moment : PolicyEntry → Option ℕ) → ((e : PolicyEntry) → moment (f e) ≡ moment e) → (es : List PolicyEntry) (t : ℕ) (key : List ℕ) → is_come moment (map f es) t key ≡ is_come moment es t key
  come_stays moment same es t key =
      ap (λ o. option_map_or (λ e. has_come t (moment e)) o false) (mapped es key)
      ∙ elim (entry es key) as (λ o. option_map_or (λ e. has_come t (moment e)) (option_map f o) false ≡ option_map_or (λ e. has_come t (moment e)) o false) [ None ↦ refl | Some e ↦ ap (has_come t) (same e) ]

  -- a moment to which `f` adds one for the entries with some identifiers, which have entries
  pub come_more : (moment : PolicyEntry → Option ℕ) (hit : List ℕ → Bool) (t : ℕ) → ((e : PolicyEntry) → has_come t (moment (f e)) ≡ (has_come t (moment e) || hit e.spot.id)) → (es : List PolicyEntry) (key : List ℕ) → (hit key ≡ true → is_some (entry es key) ≡ true)
      → is_come moment (map f es) t key ≡ (is_come moment es t key || hit key)
  come_more moment hit t more es key there =
      ap (λ o. option_map_or (λ e. has_come t (moment e)) o false) (mapped es key)
      ∙ elim (entry es key) as (λ o. entry es key ≡ o → (hit key ≡ true → is_some o ≡ true) → option_map_or (λ e. has_come t (moment e)) (option_map f o) false ≡ (option_map_or (λ e. has_come t (moment e)) o false || hit key)) [
        | None ↦ λ is there. elim (hit key) as (λ b. (b ≡ true → false ≡ true) → false ≡ (false || b)) [ true ↦ λ k. k refl | false ↦ λ k. refl ] there
        | Some e ↦ λ is there. more e ∙ ap (λ id. has_come t (moment e) || hit id) (found_has entry_id key es e is)
      ] refl there

  pub ascends_on : (es : List PolicyEntry) → Ascends entry_id es → Ascends entry_id (map f es)
  ascends_on es up = ascends_map entry_id f keeps_id es up

pub some_of : {A B : Type 0} (f : A → B) (o : Option A) → is_some (option_map f o) ≡ is_some o
some_of f None = refl
some_of f (Some x) = refl

-- an entry is still there
there_still : (f : PolicyEntry → PolicyEntry) (keeps : (e : PolicyEntry) → (f e).spot ≡ e.spot) (es : List PolicyEntry) (key : List ℕ) → is_some (entry (map f es) key) ≡ is_some (entry es key)
there_still f keeps es key = ap is_some (mapped f keeps es key) ∙ some_of f (entry es key)

-- all successors of a publication
pub successors_ascend : (m : ℕ) (ps : List Policy) (es : List PolicyEntry) → Ascends entry_id es → Ascends entry_id (after_successors m ps es)
successors_ascend m [] es up = up
successors_ascend m (p ∷ ps) es up = successors_ascend m ps (map (after_superseding (max m p.start) p.previous) es) (ascends_on (after_superseding (max m p.start) p.previous) (superseded_spot (max m p.start) p.previous) es up)

pub length-after_successors : (m : ℕ) (ps : List Policy) (es : List PolicyEntry) → length (after_successors m ps es) ≡ length es
length-after_successors m [] es = refl
length-after_successors m (p ∷ ps) es =
    length-after_successors m ps (map (after_superseding (max m p.start) p.previous) es) ∙ length-map es (after_superseding (max m p.start) p.previous)

pub successors_stay : (m : ℕ) (ps : List Policy) (es : List PolicyEntry) (key : List ℕ) → option_map (λ (e : PolicyEntry). e.spot) (entry (after_successors m ps es) key) ≡ option_map (λ (e : PolicyEntry). e.spot) (entry es key)
successors_stay m [] es key = refl
successors_stay m (p ∷ ps) es key =
    successors_stay m ps (map (after_superseding (max m p.start) p.previous) es) key ∙ spot_stay m p es key
  where
    spot_stay : (m : ℕ) (p : Policy) (es : List PolicyEntry) (key : List ℕ) → option_map (λ (e : PolicyEntry). e.spot) (entry (map (after_superseding (max m p.start) p.previous) es) key) ≡ option_map (λ (e : PolicyEntry). e.spot) (entry es key)
    spot_stay m p es key = spot_stays (after_superseding (max m p.start) p.previous) (superseded_spot (max m p.start) p.previous) es key

pub successors_withdraw : (m : ℕ) (ps : List Policy) (es : List PolicyEntry) (t : ℕ) (key : List ℕ) → is_come (λ e. e.withdrawn) (after_successors m ps es) t key ≡ is_come (λ e. e.withdrawn) es t key
successors_withdraw m [] es t key = refl
successors_withdraw m (p ∷ ps) es t key =
    successors_withdraw m ps (map (after_superseding (max m p.start) p.previous) es) t key
    ∙ come_stays (after_superseding (max m p.start) p.previous) (superseded_spot (max m p.start) p.previous) (λ e. e.withdrawn) (superseding_withdraws (max m p.start) p.previous) es t key

or_assoc : (a b c : Bool) → ((a || b) || c) ≡ (a || (b || c))
or_assoc true b c = refl
or_assoc false b c = refl

or_left : (a b : Bool) → a ≡ true → (a || b) ≡ true
or_left a b h = ap (λ x. x || b) h

or_right : (a b : Bool) → b ≡ true → (a || b) ≡ true
or_right true b h = refl
or_right false b h = h

and_second : (a b : Bool) → (a && b) ≡ true → b ≡ true
and_second true b h = h
and_second false b h = absurd (false≢true h)

-- the predecessors of policies
abbrev predecessors : List Policy → List (List ℕ)
predecessors ps = flat_map (λ p. p.previous) ps

pub successors_supersede : (m : ℕ) (ps : List Policy) (es : List PolicyEntry) (t : ℕ) (key : List ℕ) → (is_among (predecessors ps) key ≡ true → is_some (entry es key) ≡ true) → is_come (λ e. e.superseded) (after_successors m ps es) t key ≡ (is_come (λ e. e.superseded) es t key || list_any (supersedes t key) (map (dated m) ps))
successors_supersede m [] es t key there = sym (or-false (is_come (λ e. e.superseded) es t key))
successors_supersede m (p ∷ ps) es t key there =
    let f = after_superseding (max m p.start) p.previous in
    let keeps = superseded_spot (max m p.start) p.previous in
    let among = list_any-append (λ (known : List ℕ). bytes_eq known key) p.previous (predecessors ps) in
    let here : is_come (λ e. e.superseded) (map f es) t key ≡ (is_come (λ e. e.superseded) es t key || nat_le (max m p.start) t && is_among p.previous key) =
    come_more f keeps (λ e. e.superseded) (λ id. nat_le (max m p.start) t && is_among p.previous id) t (superseded_come t (max m p.start) p.previous) es key
    (λ hit. there (among ∙ or_left (is_among p.previous key) (is_among (predecessors ps) key) (and_second (nat_le (max m p.start) t) (is_among p.previous key) hit))) in
    successors_supersede m ps (map f es) t key (λ later. there_still f keeps es key ∙ there (among ∙ or_right (is_among p.previous key) (is_among (predecessors ps) key) later))
    ∙ ap (λ b. b || list_any (supersedes t key) (map (dated m) ps)) (here ∙ ap (λ b. is_come (λ e. e.superseded) es t key || b && is_among p.previous key) (le_max m p.start t))
    ∙ or_assoc (is_come (λ e. e.superseded) es t key) (supersedes t key (dated m p)) (list_any (supersedes t key) (map (dated m) ps))

-- the withdrawals of a publication
pub withdrawal_ascends : (m : ℕ) (ids : List (List ℕ)) (es : List PolicyEntry) → Ascends entry_id es → Ascends entry_id (map (after_withdrawal m ids) es)
withdrawal_ascends m ids es up = ascends_on (after_withdrawal m ids) (withdrawn_spot m ids) es up

pub withdrawal_stays : (m : ℕ) (ids : List (List ℕ)) (es : List PolicyEntry) (key : List ℕ) → option_map (λ (e : PolicyEntry). e.spot) (entry (map (after_withdrawal m ids) es) key) ≡ option_map (λ (e : PolicyEntry). e.spot) (entry es key)
withdrawal_stays m ids es key = spot_stays (after_withdrawal m ids) (withdrawn_spot m ids) es key

pub withdrawal_superseded : (m : ℕ) (ids : List (List ℕ)) (es : List PolicyEntry) (t : ℕ) (key : List ℕ) → is_come (λ e. e.superseded) (map (after_withdrawal m ids) es) t key ≡ is_come (λ e. e.superseded) es t key
withdrawal_superseded m ids es t key = come_stays (after_withdrawal m ids) (withdrawn_spot m ids) (λ e. e.superseded) (withdrawal_supersedes m ids) es t key

pub withdrawal_withdraws : (m : ℕ) (ids : List (List ℕ)) (es : List PolicyEntry) (t : ℕ) (key : List ℕ) → (is_among ids key ≡ true → is_some (entry es key) ≡ true) → is_come (λ e. e.withdrawn) (map (after_withdrawal m ids) es) t key ≡ (is_come (λ e. e.withdrawn) es t key || nat_le m t && is_among ids key)
withdrawal_withdraws m ids es t key there =
    come_more (after_withdrawal m ids) (withdrawn_spot m ids) (λ e. e.withdrawn) (λ id. nat_le m t && is_among ids id) t (withdrawn_come t m ids) es key (λ hit. there (and_second (nat_le m t) (is_among ids key) hit))

-- entries of new policies
pub fresh_come : (moment : PolicyEntry → Option ℕ) → ((s : DocumentSpot) → moment (fresh s) ≡ None) → (old new : List PolicyEntry) (spots : List DocumentSpot) → Lists entry_id old new (map fresh spots) → (t : ℕ) (key : List ℕ) → is_come moment new t key ≡ is_come moment old t key
fresh_come moment none old new spots listed t key =
    ap (λ o. option_map_or (λ e. has_come t (moment e)) o false) (listed.found key ∙ ap (option_or (entry old key)) (find-map (λ (s : DocumentSpot). s.id) entry_id fresh (λ s. refl) key spots))
    ∙ elim (entry old key) as (λ o. option_map_or (λ e. has_come t (moment e)) (option_or o (option_map fresh (find (has (λ (s : DocumentSpot). s.id) key) spots))) false ≡ option_map_or (λ e. has_come t (moment e)) o false) [
      | Some e ↦ refl
      | None ↦ elim (find (has (λ (s : DocumentSpot). s.id) key) spots) as (λ o. option_map_or (λ e. has_come t (moment e)) (option_map fresh o) false ≡ false) [ None ↦ refl | Some s ↦ ap (has_come t) (none s) ]
    ]

-- the spots of new policies
pub fresh_spots : (old new : List PolicyEntry) (spots : List DocumentSpot) → Lists entry_id old new (map fresh spots) → (key : List ℕ) → option_map (λ (e : PolicyEntry). e.spot) (entry new key) ≡ option_or (option_map (λ (e : PolicyEntry). e.spot) (entry old key)) (find (has (λ (s : DocumentSpot). s.id) key) spots)
fresh_spots old new spots listed key =
    ap (option_map (λ (e : PolicyEntry). e.spot)) (listed.found key ∙ ap (option_or (entry old key)) (find-map (λ (s : DocumentSpot). s.id) entry_id fresh (λ s. refl) key spots))
    ∙ elim (entry old key) as (λ o. option_map (λ (e : PolicyEntry). e.spot) (option_or o (option_map fresh (find (has (λ (s : DocumentSpot). s.id) key) spots))) ≡ option_or (option_map (λ (e : PolicyEntry). e.spot) o) (find (has (λ (s : DocumentSpot). s.id) key) spots)) [
      | Some e ↦ refl
      | None ↦ elim (find (has (λ (s : DocumentSpot). s.id) key) spots) as (λ o. option_map (λ (e : PolicyEntry). e.spot) (option_map fresh o) ≡ o) [ None ↦ refl | Some s ↦ refl ]
    ]

-- an identifier that has an element still has one
pub old_there : (old new more : List PolicyEntry) → Lists entry_id old new more → (key : List ℕ) → is_some (entry old key) ≡ true → is_some (entry new key) ≡ true
old_there old new more listed key there =
    ap is_some (listed.found key)
    ∙ elim (entry old key) as (λ o. is_some o ≡ true → is_some (option_or o (find (has entry_id key) more)) ≡ true) [ Some e ↦ λ h. refl | None ↦ λ h. absurd (false≢true h) ] there
