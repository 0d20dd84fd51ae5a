-- What the maps of drafts have at an identifier, and what a change of the list does to them.
use Rattle.std.proofs.Common.{◌≡◌, ℕ, ◌+◌, ◌-◌, ◌<◌, ◌≤◌, Bool, true, false, cond, not, ◌&&◌, List, [], ◌∷◌, ◌++◌, length, drop, get_or, zero, suc, add-one, drop-cons, map, Option, Some, None, option_map, is_some, refl, ap, sym, ◌∙◌, arith}
use Rattle.std.proofs.Math.ListN.{set}
use Rattle.std.specs.Prelude.{bytes_eq, position}
use Rattle.std.specs.List.{filter, position_from}
use Rattle.std.specs.Ordering.{eq_by_cmp}
use Rattle.std.specs.Cmp.{eq_by_cmp_equiv}
use Rattle.std.specs.Cmp.Lexicographic.{nat_list_cmp_total, texts_ties}
use Rattle.std.specs.FinMap.{FinMap, get, insert, remove, get-insert, get-remove, get-empty, len, len-insert, len-remove, empty_of_len, same_map, slice_cmp-IsAntisymmetric, nat_cmp-IsAntisymmetric}
use Rattle.std.proofs.lemmas.Bool.{false≢true, both_ways, and_parts, le-ltb, lt-ltb}
use Rattle.std.proofs.lemmas.Slice.Eq.{bytes_eq-Decides}
use Rattle.std.proofs.lemmas.Iterator.Adapters.{position_from-zero}
use Rattle.std.specs.Prelude.{nat_lt, Ok, Err}
use Rattle.mds_drafts.specs.declared.drafts.Put.TheVariants.{New, Replaced}
use Rattle.mds_drafts.specs.declared.drafts.PutFault.TheVariants.{DraftsFull}
use Rattle.std.specs.declared.sync.Arc.{Arc}
use Rattle.std.specs.declared.alloc.Global.{Global}
use Rattle.mds_catalog.proofs.Found.{drop_at}
use Rattle.mds_policy.specs.declared.policy.Policy as program
use Rattle.mds_geography.specs.declared.geography.Geography as program'
use Rattle.mds_policy.specs.Policy.{Policy, policy_document}
use Rattle.mds_geography.specs.Geography.{Geography, geography_document}
use Rattle.mds_drafts.specs.Drafts.{id_cmp, Drafts, Document, policy, geography, draft_at, is_of, kind_of, id_of, has_draft, count_of, put_answer, with_draft, without_draft, without_keys}
use Rattle.mds_drafts.specs.declared.drafts.TheConstants.{MOST_DRAFTS}
use Rattle.mds_drafts.specs.Entries.{document_of, drafts_in}
use Rattle.mds_drafts.specs.declared.draft.Draft.{Draft}
use Rattle.mds_drafts.specs.declared.draft.Draft.TheVariants as drafts
use Rattle.mds_text.specs.declared.draft_kind.DraftKind.{DraftKind}
use Rattle.mds_text.specs.declared.draft_kind.DraftKind.TheVariants as kinds

-- identifiers tie where their bytes are equal
pub id_ties : (a b : List ℕ) → eq_by_cmp id_cmp b a ≡ bytes_eq a b
id_ties a b = (eq_by_cmp_equiv nat_list_cmp_total).symm b a ∙ sym (texts_ties a b)

chosen : {A B : Type 0} (f : A → B) (b : Bool) (x : A) (o : Option A) → option_map f (cond b (Some x) o) ≡ cond b (Some (f x)) (option_map f o)
chosen f true x o = refl
chosen f false x o = refl

dropped : {A B : Type 0} (f : A → B) (b : Bool) (o : Option A) → option_map f (cond b None o) ≡ cond b None (option_map f o)
dropped f true o = refl
dropped f false o = refl

-- the value at a key after an insert
pub get_inserted : {X : Type 0} (m : FinMap id_cmp X) (k : List ℕ) (v : X) (q : List ℕ) → get (insert m k v) q ≡ cond (bytes_eq k q) (Some v) (get m q)
get_inserted m k v q = get-insert nat_list_cmp_total m k v q ∙ ap (λ b. cond b (Some v) (get m q)) (id_ties k q)

-- the value at a key after a removal
pub get_removed : {X : Type 0} (m : FinMap id_cmp X) (k q : List ℕ) → get (remove m k) q ≡ cond (bytes_eq k q) None (get m q)
get_removed m k q = get-remove nat_list_cmp_total m k q ∙ ap (λ b. cond b None (get m q)) (id_ties k q)

-- drafts with one more have it, and else what they had
pub draft_at-with : (ds : Drafts) (doc : Document) (kind : DraftKind) (id : List ℕ) → draft_at (with_draft ds doc) kind id ≡ cond (is_of doc kind id) (Some doc) (draft_at ds kind id)
draft_at-with ds (policy d) kinds.Policy id = ap (option_map policy) (get_inserted ds.policies d.id d id) ∙ chosen policy (bytes_eq d.id id) d (get ds.policies id)
draft_at-with ds (policy d) kinds.Geography id = refl
draft_at-with ds (geography d) kinds.Policy id = refl
draft_at-with ds (geography d) kinds.Geography id = ap (option_map geography) (get_inserted ds.geographies d.id d id) ∙ chosen geography (bytes_eq d.id id) d (get ds.geographies id)

-- two keys are equal
abbrev pub is_key : DraftKind → List ℕ → DraftKind → List ℕ → Bool
is_key kinds.Policy id kinds.Policy q = bytes_eq id q
is_key kinds.Policy id kinds.Geography q = false
is_key kinds.Geography id kinds.Policy q = false
is_key kinds.Geography id kinds.Geography q = bytes_eq id q

-- drafts without one have what they had elsewhere
pub draft_at-without : (ds : Drafts) (kind : DraftKind) (id : List ℕ) (k : DraftKind) (q : List ℕ) → draft_at (without_draft ds kind id) k q ≡ cond (is_key kind id k q) None (draft_at ds k q)
draft_at-without ds kinds.Policy id kinds.Policy q = ap (option_map policy) (get_removed ds.policies id q) ∙ dropped policy (bytes_eq id q) (get ds.policies q)
draft_at-without ds kinds.Policy id kinds.Geography q = refl
draft_at-without ds kinds.Geography id kinds.Policy q = refl
draft_at-without ds kinds.Geography id kinds.Geography q = ap (option_map geography) (get_removed ds.geographies id q) ∙ dropped geography (bytes_eq id q) (get ds.geographies q)

-- a first draft comes before the others
with_first : (d : Draft) (ds : List Draft) → drafts_in (d ∷ ds) ≡ with_draft (drafts_in ds) (document_of d)
with_first (drafts.Policy share) ds = refl
with_first (drafts.Geography share) ds = refl

pub draft_at-cons : (d : Draft) (ds : List Draft) (kind : DraftKind) (id : List ℕ) → draft_at (drafts_in (d ∷ ds)) kind id ≡ cond (is_of (document_of d) kind id) (Some (document_of d)) (draft_at (drafts_in ds) kind id)
draft_at-cons d ds kind id = ap (λ all. draft_at all kind id) (with_first d ds) ∙ draft_at-with (drafts_in ds) (document_of d) kind id

pub draft_at_none : (kind : DraftKind) (id : List ℕ) → draft_at (drafts_in []) kind id ≡ None
draft_at_none kinds.Policy id = ap (option_map policy) (get-empty id_cmp id)
draft_at_none kinds.Geography id = ap (option_map geography) (get-empty id_cmp id)

-- the drafts from an index on
pub draft_from : (items : List Draft) (i : ℕ) (d : Draft) (kind : DraftKind) (id : List ℕ) → i < length items → d ≡ get_or items i d → draft_at (drafts_in (drop i items)) kind id ≡ cond (is_of (document_of d) kind id) (Some (document_of d)) (draft_at (drafts_in (drop (i + 1) items)) kind id)
draft_from items i d kind id h e =
    let here : drop i items ≡ d ∷ drop (i + 1) items = rw (add-one, drop-cons items i d) (ap (λ y. y ∷ drop (suc i) items) (sym e)) in
    ap (λ ds. draft_at (drafts_in ds) kind id) here ∙ draft_at-cons d (drop (i + 1) items) kind id

-- drafts with equal look-ups are equal
undo_policy : Option Document → Option Policy
undo_policy None = None
undo_policy (Some (policy d)) = Some d
undo_policy (Some (geography d)) = None

undo_geography : Option Document → Option Geography
undo_geography None = None
undo_geography (Some (policy d)) = None
undo_geography (Some (geography d)) = Some d

undone_policy : (o : Option Policy) → undo_policy (option_map policy o) ≡ o
unfolding undo_policy
undone_policy None = refl
undone_policy (Some d) = refl

undone_geography : (o : Option Geography) → undo_geography (option_map geography o) ≡ o
unfolding undo_geography
undone_geography None = refl
undone_geography (Some d) = refl

pub drafts_same : (a b : Drafts) → ((kind : DraftKind) (id : List ℕ) → draft_at a kind id ≡ draft_at b kind id) → a ≡ b
drafts_same a b h =
    let policies : a.policies ≡ b.policies = same_map nat_list_cmp_total (slice_cmp-IsAntisymmetric nat_cmp-IsAntisymmetric) a.policies b.policies
    (λ q. sym (undone_policy (get a.policies q)) ∙ ap undo_policy (h kinds.Policy q) ∙ undone_policy (get b.policies q)) in
    let geographies : a.geographies ≡ b.geographies = same_map nat_list_cmp_total (slice_cmp-IsAntisymmetric nat_cmp-IsAntisymmetric) a.geographies b.geographies
    (λ q. sym (undone_geography (get a.geographies q)) ∙ ap undo_geography (h kinds.Geography q) ∙ undone_geography (get b.geographies q)) in
    λ i. record { policies = policies i; geographies = geographies i }

-- documents with equal keys have equal look-ups
same_key : (a b : Document) → is_of a (kind_of b) (id_of b) ≡ true → (kind : DraftKind) (id : List ℕ) → is_of a kind id ≡ is_of b kind id
same_key (policy a) (policy b) h kinds.Policy id = ap (λ k. bytes_eq k id) ((bytes_eq-Decides a.id b.id).0 h)
same_key (policy a) (policy b) h kinds.Geography id = refl
same_key (policy a) (geography b) h kind id = absurd (false≢true h)
same_key (geography a) (policy b) h kind id = absurd (false≢true h)
same_key (geography a) (geography b) h kinds.Policy id = refl
same_key (geography a) (geography b) h kinds.Geography id = ap (λ k. bytes_eq k id) ((bytes_eq-Decides a.id b.id).0 h)

shadowed : {A : Type 0} (b : Bool) (x y z : A) → cond b x z ≡ cond b x (cond b y z)
shadowed true x y z = refl
shadowed false x y z = refl

apart_swapped : {A : Type 0} (a b : Bool) (x y z : A) → (a ≡ true → b ≡ true → ⊥) → cond a x (cond b y z) ≡ cond b y (cond a x z)
apart_swapped true true x y z h = absurd (h refl refl)
apart_swapped true false x y z h = refl
apart_swapped false b x y z h = refl

-- the first index at which a test passes
abbrev pub first_at : {A : Type 0} → (A → Bool) → List A → ℕ → Bool
first_at p [] i = false
first_at p (x ∷ xs) zero = p x
first_at p (x ∷ xs) (suc i) = not (p x) && first_at p xs i

first_at_step : {A : Type 0} (p : A → Bool) (x : A) (xs : List A) (n i : ℕ) → ((j : ℕ) → position_from p (n + 1) xs ≡ Some j → (k : ℕ) × (j ≡ n + 1 + k) × (first_at p xs k ≡ true)) → (b : Bool) → p x ≡ b → cond b (Some n) (position_from p (n + 1) xs) ≡ Some i → (k : ℕ) × (i ≡ n + k) × (first_at p (x ∷ xs) k ≡ true)
first_at_step p x xs n i rest true e h = (zero, (let same : n ≡ i = cc in omega arith), e)
first_at_step p x xs n i rest false e h =
    let found = rest i h in
    (suc found.0, (let at = found.1 in omega arith), ap (λ b. not b && first_at p xs found.0) e ∙ found.2)

-- an index that was found is the first
first_at_from : {A : Type 0} (p : A → Bool) (xs : List A) (n i : ℕ) → position_from p n xs ≡ Some i → (k : ℕ) × (i ≡ n + k) × (first_at p xs k ≡ true)
first_at_from p [] n i h = absurd (cc)
first_at_from p (x ∷ xs) n i h = first_at_step p x xs n i (λ j. first_at_from p xs (n + 1) j) (p x) refl h

pub first_at_position : {A : Type 0} (p : A → Bool) (xs : List A) (i : ℕ) → position p xs ≡ Some i → first_at p xs i ≡ true
first_at_position p xs i h =
    let found = first_at_from p xs 0 i (sym (position_from-zero p xs) ∙ h) in
    let same : found.0 ≡ i = (let at = found.1 in omega arith) in
    ap (first_at p xs) (sym same) ∙ found.2

-- no draft of a key is in the list
none_step : (d : Draft) (ds : List Draft) (kind : DraftKind) (id : List ℕ) (b : Bool) (n : ℕ) → is_of (document_of d) kind id ≡ b → cond b (Some n) (position_from (λ x. is_of (document_of x) kind id) (n + 1) ds) ≡ None → (b ≡ false) × (position_from (λ x. is_of (document_of x) kind id) (n + 1) ds ≡ None)
none_step d ds kind id true n e h = absurd (cc)
none_step d ds kind id false n e h = (refl, h)

none_from : (items : List Draft) (kind : DraftKind) (id : List ℕ) (n : ℕ) → position_from (λ d. is_of (document_of d) kind id) n items ≡ None → draft_at (drafts_in items) kind id ≡ None
none_from [] kind id n h = draft_at_none kind id
none_from (d ∷ ds) kind id n h =
    let parts = none_step d ds kind id (is_of (document_of d) kind id) n refl h in
    draft_at-cons d ds kind id ∙ ap (λ b. cond b (Some (document_of d)) (draft_at (drafts_in ds) kind id)) parts.0 ∙ none_from ds kind id (n + 1) parts.1

pub none_at_position : (items : List Draft) (kind : DraftKind) (id : List ℕ) → position (λ d. is_of (document_of d) kind id) items ≡ None → draft_at (drafts_in items) kind id ≡ None
none_at_position items kind id h = none_from items kind id 0 (sym (position_from-zero (λ d. is_of (document_of d) kind id) items) ∙ h)

not_true : (b : Bool) → not b ≡ true → b ≡ false
not_true true h = absurd (false≢true h)
not_true false h = refl

-- documents with different keys don't meet at one key
keys_apart : (a b : Document) → not (is_of a (kind_of b) (id_of b)) ≡ true → (kind : DraftKind) (id : List ℕ) → is_of a kind id ≡ true → is_of b kind id ≡ true → ⊥
keys_apart (policy a) (policy b) h kinds.Policy id p q = both_ways (bytes_eq a.id b.id) (not_true _ h) (ap (bytes_eq a.id) ((bytes_eq-Decides b.id id).0 q) ∙ p)
keys_apart (policy a) (policy b) h kinds.Geography id p q = false≢true p
keys_apart (policy a) (geography b) h kinds.Policy id p q = false≢true q
keys_apart (policy a) (geography b) h kinds.Geography id p q = false≢true p
keys_apart (geography a) (policy b) h kinds.Policy id p q = false≢true p
keys_apart (geography a) (policy b) h kinds.Geography id p q = false≢true q
keys_apart (geography a) (geography b) h kinds.Policy id p q = false≢true p
keys_apart (geography a) (geography b) h kinds.Geography id p q = both_ways (bytes_eq a.id b.id) (not_true _ h) (ap (bytes_eq a.id) ((bytes_eq-Decides b.id id).0 q) ∙ p)

absent_parts : (b : Bool) (x : Document) (rest : Option Document) → cond b (Some x) rest ≡ None → (not b ≡ true) × (rest ≡ None)
absent_parts true x rest h = absurd (cc)
absent_parts false x rest h = (refl, h)

always : {A : Type 0} (b : Bool) (x : A) → cond b x x ≡ x
always true x = refl
always false x = refl

-- the first draft of a key is replaced
set_first : (items : List Draft) (i : ℕ) (new : Draft) → first_at (λ d. is_of (document_of d) (kind_of (document_of new)) (id_of (document_of new))) items i ≡ true → (kind : DraftKind) (id : List ℕ) → draft_at (drafts_in (set items i new)) kind id ≡ cond (is_of (document_of new) kind id) (Some (document_of new)) (draft_at (drafts_in items) kind id)
set_first [] i new h kind id = absurd (false≢true h)
set_first (d ∷ ds) zero new h kind id =
    let n = document_of new in
    let rest = draft_at (drafts_in ds) kind id in
    draft_at-cons new ds kind id ∙ shadowed (is_of n kind id) (Some n) (Some (document_of d)) rest
    ∙ ap (λ b. cond (is_of n kind id) (Some n) (cond b (Some (document_of d)) rest)) (sym (same_key (document_of d) n h kind id))
    ∙ ap (cond (is_of n kind id) (Some n)) (sym (draft_at-cons d ds kind id))
set_first (d ∷ ds) (suc i) new h kind id =
    let n = document_of new in
    let parts = and_parts (not (is_of (document_of d) (kind_of n) (id_of n))) (first_at (λ x. is_of (document_of x) (kind_of n) (id_of n)) ds i) h in
    draft_at-cons d (set ds i new) kind id
    ∙ ap (cond (is_of (document_of d) kind id) (Some (document_of d))) (set_first ds i new parts.1 kind id)
    ∙ apart_swapped (is_of (document_of d) kind id) (is_of n kind id) (Some (document_of d)) (Some n) (draft_at (drafts_in ds) kind id) (keys_apart (document_of d) n parts.0 kind id)
    ∙ ap (cond (is_of n kind id) (Some n)) (sym (draft_at-cons d ds kind id))

-- a draft is appended, where there was none of its key
push_last : (items : List Draft) (new : Draft) → draft_at (drafts_in items) (kind_of (document_of new)) (id_of (document_of new)) ≡ None → (kind : DraftKind) (id : List ℕ) → draft_at (drafts_in (items ++ new ∷ [])) kind id ≡ cond (is_of (document_of new) kind id) (Some (document_of new)) (draft_at (drafts_in items) kind id)
push_last [] new h kind id = draft_at-cons new [] kind id
push_last (d ∷ ds) new h kind id =
    let n = document_of new in
    let parts = absent_parts (is_of (document_of d) (kind_of n) (id_of n)) (document_of d) _ (sym (draft_at-cons d ds (kind_of n) (id_of n)) ∙ h) in
    draft_at-cons d (ds ++ new ∷ []) kind id
    ∙ ap (cond (is_of (document_of d) kind id) (Some (document_of d))) (push_last ds new parts.1 kind id)
    ∙ apart_swapped (is_of (document_of d) kind id) (is_of n kind id) (Some (document_of d)) (Some n) (draft_at (drafts_in ds) kind id) (keys_apart (document_of d) n parts.0 kind id)
    ∙ ap (cond (is_of n kind id) (Some n)) (sym (draft_at-cons d ds kind id))

-- the drafts of a key are removed
filter_step : (d : Draft) (ds : List Draft) (kind : DraftKind) (id : List ℕ) (k : DraftKind) (q : List ℕ) (b : Bool) → is_of (document_of d) kind id ≡ b → draft_at (drafts_in (cond (not b) (d ∷ filter (λ x. not (is_of (document_of x) kind id)) ds) (filter (λ x. not (is_of (document_of x) kind id)) ds))) k q ≡ cond b (draft_at (drafts_in (filter (λ x. not (is_of (document_of x) kind id)) ds)) k q) (cond (is_of (document_of d) k q) (Some (document_of d)) (draft_at (drafts_in (filter (λ x. not (is_of (document_of x) kind id)) ds)) k q))
filter_step d ds kind id k q true e = refl
filter_step d ds kind id k q false e = draft_at-cons d (filter (λ x. not (is_of (document_of x) kind id)) ds) k q

taken_away : (b c e : Bool) (x : Document) (rest : Option Document) → (b ≡ true → e ≡ c) → (b ≡ false → c ≡ true → e ≡ true → ⊥) → cond b (cond c None rest) (cond e (Some x) (cond c None rest)) ≡ cond c None (cond e (Some x) rest)
taken_away true true e x rest h g = refl
taken_away true false e x rest h g = ap (λ b. cond b (Some x) rest) (sym (h refl))
taken_away false true true x rest h g = absurd (g refl refl refl)
taken_away false true false x rest h g = refl
taken_away false false e x rest h g = refl

-- a document has one key
is_of-key : (d : Document) (kind : DraftKind) (id : List ℕ) → is_of d kind id ≡ true → (k : DraftKind) (q : List ℕ) → is_of d k q ≡ is_key kind id k q
is_of-key (policy d) kinds.Policy id h kinds.Policy q = ap (λ x. bytes_eq x q) ((bytes_eq-Decides d.id id).0 h)
is_of-key (policy d) kinds.Policy id h kinds.Geography q = refl
is_of-key (policy d) kinds.Geography id h k q = absurd (false≢true h)
is_of-key (geography d) kinds.Policy id h k q = absurd (false≢true h)
is_of-key (geography d) kinds.Geography id h kinds.Policy q = refl
is_of-key (geography d) kinds.Geography id h kinds.Geography q = ap (λ x. bytes_eq x q) ((bytes_eq-Decides d.id id).0 h)

key_is_of : (d : Document) (kind : DraftKind) (id : List ℕ) (k : DraftKind) (q : List ℕ) → is_of d kind id ≡ false → is_key kind id k q ≡ true → is_of d k q ≡ true → ⊥
key_is_of (policy d) kinds.Policy id kinds.Policy q none same found = both_ways (bytes_eq d.id id) none (ap (bytes_eq d.id) ((bytes_eq-Decides id q).0 same) ∙ found)
key_is_of (policy d) kinds.Policy id kinds.Geography q none same found = false≢true same
key_is_of (policy d) kinds.Geography id kinds.Policy q none same found = false≢true same
key_is_of (policy d) kinds.Geography id kinds.Geography q none same found = false≢true found
key_is_of (geography d) kinds.Policy id kinds.Policy q none same found = false≢true found
key_is_of (geography d) kinds.Policy id kinds.Geography q none same found = false≢true same
key_is_of (geography d) kinds.Geography id kinds.Policy q none same found = false≢true same
key_is_of (geography d) kinds.Geography id kinds.Geography q none same found = both_ways (bytes_eq d.id id) none (ap (bytes_eq d.id) ((bytes_eq-Decides id q).0 same) ∙ found)

filter_out : (items : List Draft) (kind : DraftKind) (id : List ℕ) (k : DraftKind) (q : List ℕ) → draft_at (drafts_in (filter (λ x. not (is_of (document_of x) kind id)) items)) k q ≡ cond (is_key kind id k q) None (draft_at (drafts_in items) k q)
filter_out [] kind id k q = draft_at_none k q ∙ sym (ap (cond (is_key kind id k q) None) (draft_at_none k q) ∙ always (is_key kind id k q) None)
filter_out (d ∷ ds) kind id k q =
    let b = is_of (document_of d) kind id in
    let c = is_key kind id k q in
    let e = is_of (document_of d) k q in
    let rest = draft_at (drafts_in ds) k q in
    filter_step d ds kind id k q b refl
    ∙ ap (λ o. cond b o (cond e (Some (document_of d)) o)) (filter_out ds kind id k q)
    ∙ taken_away b c e (document_of d) rest (λ h. is_of-key (document_of d) kind id h k q) (key_is_of (document_of d) kind id k q)
    ∙ ap (cond c None) (sym (draft_at-cons d ds k q))

-- a draft replaces the first of its key
pub replaced : (items : List Draft) (i : ℕ) (new : Draft) → position (λ d. is_of (document_of d) (kind_of (document_of new)) (id_of (document_of new))) items ≡ Some i → drafts_in (set items i new) ≡ with_draft (drafts_in items) (document_of new)
replaced items i new h = drafts_same _ _ (λ kind id. set_first items i new (first_at_position _ items i h) kind id ∙ sym (draft_at-with (drafts_in items) (document_of new) kind id))

-- a draft of a new key
pub added : (items : List Draft) (new : Draft) → position (λ d. is_of (document_of d) (kind_of (document_of new)) (id_of (document_of new))) items ≡ None → drafts_in (items ++ new ∷ []) ≡ with_draft (drafts_in items) (document_of new)
added items new h = drafts_same _ _ (λ kind id. push_last items new (none_at_position items _ _ h) kind id ∙ sym (draft_at-with (drafts_in items) (document_of new) kind id))

-- the drafts of a key are removed
pub taken : (items : List Draft) (kind : DraftKind) (id : List ℕ) → drafts_in (filter (λ x. not (is_of (document_of x) kind id)) items) ≡ without_draft (drafts_in items) kind id
taken items kind id = drafts_same _ _ (λ k q. filter_out items kind id k q ∙ sym (draft_at-without (drafts_in items) kind id k q))

positive : (n : ℕ) → (n ≡ 0 → ⊥) → 0 < n
positive zero h = absurd (h refl)
positive (suc n) h = omega arith

in_list : {A : Type 0} (p : A → Bool) (xs : List A) (i : ℕ) → first_at p xs i ≡ true → i < length xs
in_list p [] i h = absurd (false≢true h)
in_list p (x ∷ xs) zero h = omega arith
in_list p (x ∷ xs) (suc i) h = let rest = in_list p xs i (and_parts (not (p x)) (first_at p xs i) h).1 in omega arith

-- an index that was found is in the list
pub place_within : (p : Draft → Bool) (items : List Draft) (i : ℕ) → position p items ≡ Some i → i < length items
place_within p items i h = in_list p items i (first_at_position p items i h)

some_either : (b : Bool) (x : Document) (o : Option Document) → is_some o ≡ true → is_some (cond b (Some x) o) ≡ true
some_either true x o h = refl
some_either false x o h = h

pub some_mapped : {A B : Type 0} (f : A → B) (o : Option A) → is_some (option_map f o) ≡ is_some o
some_mapped f None = refl
some_mapped f (Some x) = refl

-- one where two kinds are equal
abbrev pub one_if : DraftKind → DraftKind → ℕ
one_if kinds.Policy kinds.Policy = 1
one_if kinds.Policy kinds.Geography = 0
one_if kinds.Geography kinds.Policy = 0
one_if kinds.Geography kinds.Geography = 1

len_replaced : {X : Type 0} (m : FinMap id_cmp X) (id : List ℕ) (v : X) → is_some (get m id) ≡ true → len (insert m id v) ≡ len m
len_replaced m id v h = len-insert nat_list_cmp_total m id v ∙ ap (λ b. cond b (len m) (len m + 1)) h

len_added : {X : Type 0} (m : FinMap id_cmp X) (id : List ℕ) (v : X) → is_some (get m id) ≡ false → len (insert m id v) ≡ len m + 1
len_added m id v h = len-insert nat_list_cmp_total m id v ∙ ap (λ b. cond b (len m) (len m + 1)) h

-- there is a draft of the document's kind and identifier
abbrev pub is_held : Drafts → Document → Bool
is_held drafts document = has_draft drafts (kind_of document) (id_of document)

-- replacing a draft changes no count
pub count_replaced : (ds : Drafts) (doc : Document) (k : DraftKind) → is_held ds doc ≡ true → count_of (with_draft ds doc) k ≡ count_of ds k
count_replaced ds (policy d) kinds.Policy h = len_replaced ds.policies d.id d (sym (some_mapped policy (get ds.policies d.id)) ∙ h)
count_replaced ds (policy d) kinds.Geography h = refl
count_replaced ds (geography d) kinds.Policy h = refl
count_replaced ds (geography d) kinds.Geography h = len_replaced ds.geographies d.id d (sym (some_mapped geography (get ds.geographies d.id)) ∙ h)

-- a new draft is one more of its kind
pub count_added : (ds : Drafts) (doc : Document) (k : DraftKind) → is_held ds doc ≡ false → count_of (with_draft ds doc) k ≡ count_of ds k + one_if (kind_of doc) k
count_added ds (policy d) kinds.Policy h = len_added ds.policies d.id d (sym (some_mapped policy (get ds.policies d.id)) ∙ h)
count_added ds (policy d) kinds.Geography h = omega arith
count_added ds (geography d) kinds.Policy h = omega arith
count_added ds (geography d) kinds.Geography h = len_added ds.geographies d.id d (sym (some_mapped geography (get ds.geographies d.id)) ∙ h)

-- a map without a key that it had has one fewer
len_removed : {X : Type 0} (m : FinMap id_cmp X) (id : List ℕ) → is_some (get m id) ≡ true → len (remove m id) + 1 ≡ len m
len_removed m id h =
    let less = len-remove nat_list_cmp_total m id ∙ ap (λ b. cond b (len m - 1) (len m)) h in
    let some : 0 < len m = positive (len m) (λ e. false≢true (sym (ap is_some (ap (λ n. get n id) (empty_of_len m e) ∙ get-empty id_cmp id)) ∙ h)) in
    omega arith

-- removing a draft takes one from the count of its kind
pub count_removed : (ds : Drafts) (kind : DraftKind) (id : List ℕ) (k : DraftKind) → is_some (draft_at ds kind id) ≡ true → count_of (without_draft ds kind id) k + one_if kind k ≡ count_of ds k
count_removed ds kinds.Policy id kinds.Policy h = len_removed ds.policies id (sym (some_mapped policy (get ds.policies id)) ∙ h)
count_removed ds kinds.Policy id kinds.Geography h = omega arith
count_removed ds kinds.Geography id kinds.Policy h = omega arith
count_removed ds kinds.Geography id kinds.Geography h = len_removed ds.geographies id (sym (some_mapped geography (get ds.geographies id)) ∙ h)

at_key : (ds : Drafts) (kind : DraftKind) (id : List ℕ) (k : DraftKind) (q : List ℕ) → draft_at ds kind id ≡ None → is_key kind id k q ≡ true → draft_at ds k q ≡ None
at_key ds kinds.Policy id kinds.Policy q h e = ap (draft_at ds kinds.Policy) (sym ((bytes_eq-Decides id q).0 e)) ∙ h
at_key ds kinds.Policy id kinds.Geography q h e = absurd (false≢true e)
at_key ds kinds.Geography id kinds.Policy q h e = absurd (false≢true e)
at_key ds kinds.Geography id kinds.Geography q h e = ap (draft_at ds kinds.Geography) (sym ((bytes_eq-Decides id q).0 e)) ∙ h

none_stays : (b : Bool) (o : Option Document) → (b ≡ true → o ≡ None) → cond b None o ≡ o
none_stays true o h = sym (h refl)
none_stays false o h = refl

-- removing a draft that isn't there changes nothing
pub without_absent : (ds : Drafts) (kind : DraftKind) (id : List ℕ) → draft_at ds kind id ≡ None → without_draft ds kind id ≡ ds
without_absent ds kind id h = drafts_same _ _ (λ k q. draft_at-without ds kind id k q ∙ none_stays (is_key kind id k q) (draft_at ds k q) (at_key ds kind id k q h))

held_first : (items : List Draft) (i : ℕ) (kind : DraftKind) (id : List ℕ) → first_at (λ d. is_of (document_of d) kind id) items i ≡ true → is_some (draft_at (drafts_in items) kind id) ≡ true
held_first [] i kind id h = absurd (false≢true h)
held_first (d ∷ ds) zero kind id h = ap is_some (draft_at-cons d ds kind id ∙ ap (λ b. cond b (Some (document_of d)) (draft_at (drafts_in ds) kind id)) h)
held_first (d ∷ ds) (suc i) kind id h =
    let parts = and_parts (not (is_of (document_of d) kind id)) (first_at (λ x. is_of (document_of x) kind id) ds i) h in
    ap is_some (draft_at-cons d ds kind id) ∙ some_either (is_of (document_of d) kind id) (document_of d) (draft_at (drafts_in ds) kind id) (held_first ds i kind id parts.1)

-- a draft whose index was found is there
pub held_at : (items : List Draft) (i : ℕ) (kind : DraftKind) (id : List ℕ) → position (λ d. is_of (document_of d) kind id) items ≡ Some i → is_some (draft_at (drafts_in items) kind id) ≡ true
held_at items i kind id h = held_first items i kind id (first_at_position (λ d. is_of (document_of d) kind id) items i h)

-- the count of a kind after a new draft
pub count_more : (ds new : Drafts) (doc : Document) (kind k : DraftKind) → new ≡ with_draft ds doc → is_held ds doc ≡ false → kind_of doc ≡ kind → count_of new k ≡ count_of ds k + one_if kind k
count_more ds new doc kind k e h same =
    ap (λ all. count_of all k) e ∙ count_added ds doc k h ∙ ap (λ x. count_of ds k + one_if x k) same

-- the count of a kind after a draft was removed
pub count_less : (ds new : Drafts) (kind : DraftKind) (id : List ℕ) (k : DraftKind) → new ≡ without_draft ds kind id → is_some (draft_at ds kind id) ≡ true → count_of new k + one_if kind k ≡ count_of ds k
count_less ds new kind id k e held = ap (λ all. count_of all k + one_if kind k) e ∙ count_removed ds kind id k held

-- the result of a put
pub answer_replaced : (ds : Drafts) (doc : Document) → is_held ds doc ≡ true → put_answer ds doc ≡ Ok Replaced
answer_replaced ds doc h = ap (λ b. cond b (Ok Replaced) (cond (nat_lt (count_of ds (kind_of doc)) MOST_DRAFTS) (Ok New) (Err DraftsFull))) h

pub answer_full : (ds : Drafts) (doc : Document) → is_held ds doc ≡ false → MOST_DRAFTS ≤ count_of ds (kind_of doc) → put_answer ds doc ≡ Err DraftsFull
answer_full ds doc h full =
    ap (λ b. cond b (Ok Replaced) (cond (nat_lt (count_of ds (kind_of doc)) MOST_DRAFTS) (Ok New) (Err DraftsFull))) h
    ∙ ap (λ b. cond b (Ok New) (Err DraftsFull)) (le-ltb (count_of ds (kind_of doc)) MOST_DRAFTS full)

pub answer_new : (ds : Drafts) (doc : Document) → is_held ds doc ≡ false → count_of ds (kind_of doc) < MOST_DRAFTS → put_answer ds doc ≡ Ok New
answer_new ds doc h room =
    ap (λ b. cond b (Ok Replaced) (cond (nat_lt (count_of ds (kind_of doc)) MOST_DRAFTS) (Ok New) (Err DraftsFull))) h
    ∙ ap (λ b. cond b (Ok New) (Err DraftsFull)) (lt-ltb (count_of ds (kind_of doc)) MOST_DRAFTS room)

-- there is none where `is_some` is false
pub none_where : {A : Type 0} (o : Option A) → is_some o ≡ false → o ≡ None
none_where None h = refl
none_where (Some x) h = absurd (false≢true (sym h))

-- the identifiers of the policies from an index on
pub policies_turn : (m : FinMap id_cmp Policy) (shares : List (Arc program.Policy Global)) (i : ℕ) (share : Arc program.Policy Global) → i < length shares → share ≡ get_or shares i share → without_keys m (map (λ d. d.id) (map (λ s. policy_document s.value) (drop i shares))) ≡ without_keys (remove m (policy_document share.value).id) (map (λ d. d.id) (map (λ s. policy_document s.value) (drop (i + 1) shares)))
policies_turn m shares i share h e = ap (λ ss. without_keys m (map (λ (d : Policy). d.id) (map (λ s. policy_document s.value) ss))) (drop_at shares i share h e)

-- the identifiers of the geographies from an index on
pub geographies_turn : (m : FinMap id_cmp Geography) (shares : List (Arc program'.Geography Global)) (i : ℕ) (share : Arc program'.Geography Global) → i < length shares → share ≡ get_or shares i share → without_keys m (map (λ d. d.id) (map (λ s. geography_document s.value) (drop i shares))) ≡ without_keys (remove m (geography_document share.value).id) (map (λ d. d.id) (map (λ s. geography_document s.value) (drop (i + 1) shares)))
geographies_turn m shares i share h e = ap (λ ss. without_keys m (map (λ (d : Geography). d.id) (map (λ s. geography_document s.value) ss))) (drop_at shares i share h e)
