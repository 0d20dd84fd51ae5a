-- In a list of lawful publications each policy is the published one with its identifier.
use Rattle.std.proofs.Common.{◌≡◌, ℕ, Bool, true, false, cond, not, ◌||◌, List, [], ◌∷◌, ◌++◌, map, find, bytes_eq, Option, Some, None, option_map, refl, sym, ap, subst, ◌∙◌, append_assoc}
use Rattle.std.specs.List.{All}
use Rattle.std.specs.Option.{is_none, is_some, option_or}
use Rattle.std.proofs.lemmas.Bool.{false≢true, and_parts}
use Rattle.std.proofs.lemmas.Grind.{flat_map-append}
use Rattle.std.proofs.lemmas.List.{append-nil}
use Rattle.std.proofs.lemmas.List.Elements.{All-nil, All-cons, All-head, All-tail, All-append, All-filter, All-map, All-weaker}
use Rattle.std.proofs.lemmas.Slice.Eq.{bytes_eq-Decides}
use Rattle.mds_policy.specs.Policy.{Policy}
use Rattle.mds_catalog.specs.Publication.{Publication, Published, are_distinct, dated, find_policy, first_published, geography_ids, in_force, is_among, is_geography_published, is_in_force, is_lawful, is_policy_published, policy_ids, published_policies}
use Rattle.mds_catalog.specs.Catalogue.{lent_policy}
use Rattle.mds_catalog.specs.Laws.{AreLawful}
use Rattle.mds_catalog.specs.declared.published.Published as lent
use Rattle.mds_catalog.proofs.Found.{find_early, find_late}
use Rattle.mds_policy.specs.declared.policy.Policy as program
use Rattle.mds_world.specs.Lasting.{IsOfItsId}

-- the policy has this identifier
abbrev has : List ℕ → Published Policy → Bool
has id p = bytes_eq p.document.id id

-- the first of these policies with its identifier is the policy itself
abbrev IsFirst : List (Published Policy) → Published Policy → Type 0
IsFirst all p = find (has p.document.id) all ≡ Some p

false_of : (b : Bool) → not b ≡ true → b ≡ false
false_of true h = absurd (false≢true h)
false_of false h = refl

or_none : (a b : Bool) → (a || b) ≡ false → (a ≡ false) × (b ≡ false)
or_none true b h = absurd (false≢true (sym h))
or_none false b h = (refl, h)

none_of : {A : Type 0} (o : Option A) → is_none o ≡ true → o ≡ None
none_of None h = refl
none_of (Some x) h = absurd (false≢true h)

none_if : {A : Type 0} (o : Option A) → is_some o ≡ false → o ≡ None
none_if None h = refl
none_if (Some x) h = absurd (false≢true (sym h))

second_none : (a b : Option (List ℕ)) → is_none (option_or a b) ≡ true → b ≡ None
second_none None b h = none_of b h
second_none (Some x) b h = absurd (false≢true h)

-- nothing was found, so each failed the test
each_fails : (test : List ℕ → Bool) (ids : List (List ℕ)) → find test ids ≡ None → All (λ id. test id ≡ false) ids
each_fails test [] h = All-nil (λ x. test x ≡ false)
each_fails test (id ∷ ids) h = by (test id) refl h (each_fails test ids)
  where
    by : (b : Bool) → test id ≡ b → cond b (Some id) (find test ids) ≡ None → (find test ids ≡ None → All (λ x. test x ≡ false) ids) → All (λ x. test x ≡ false) (id ∷ ids)
    by true is h rest = absurd (cc)
    by false is h rest = All-cons (λ x. test x ≡ false) id ids is (rest h)

from_map : {A B : Type 0} (P : B → Type 0) (f : A → B) (xs : List A) → All P (map f xs) → All (λ x. P (f x)) xs
from_map P f [] h = All-nil (λ x. P (f x))
from_map P f (x ∷ xs) h = All-cons (λ y. P (f y)) x xs (All-head P (f x) (map f xs) h) (from_map P f xs (All-tail P (f x) (map f xs) h))

-- an identifier that isn't among others differs from each
apart : (id : List ℕ) (policies : List Policy) → is_among (map (λ (q : Policy). q.id) policies) id ≡ false → All (λ (q : Policy). bytes_eq q.id id ≡ false) policies
apart id [] h = All-nil (λ (q : Policy). bytes_eq q.id id ≡ false)
apart id (q ∷ qs) h =
    let parts = or_none (bytes_eq q.id id) (is_among (map (λ (r : Policy). r.id) qs) id) h in
    All-cons (λ (r : Policy). bytes_eq r.id id ≡ false) q qs parts.0 (apart id qs parts.1)

same_bytes : (id : List ℕ) → bytes_eq id id ≡ true
same_bytes id = (bytes_eq-Decides id id).1 refl

other_way : (a b : List ℕ) → bytes_eq a b ≡ false → bytes_eq b a ≡ false
other_way a b h = by (bytes_eq b a) refl
  where
    by : (r : Bool) → bytes_eq b a ≡ r → bytes_eq b a ≡ false
    by false is = is
    by true is = absurd (false≢true (sym h ∙ (bytes_eq-Decides a b).1 (sym ((bytes_eq-Decides b a).0 is))))

-- none of these policies has its identifier
abbrev NotIn : List (Published Policy) → Policy → Type 0
NotIn before q = find (has q.id) before ≡ None

all_apart : (moment : ℕ) (before : List (Published Policy)) (q : Policy) (rs : List Policy) → All (λ (r : Policy). bytes_eq r.id q.id ≡ false) rs → All (NotIn before) rs → All (NotIn (before ++ dated moment q ∷ [])) rs
all_apart moment before q [] other none = All-nil (NotIn (before ++ dated moment q ∷ []))
all_apart moment before q (r ∷ rs) other none =
    All-cons (NotIn (before ++ dated moment q ∷ [])) r rs
    (find_late (has r.id) before (dated moment q ∷ []) (All-head (NotIn before) r rs none) ∙ ap (λ b. cond b (Some (dated moment q)) None) (other_way r.id q.id (All-head (λ (p : Policy). bytes_eq p.id q.id ≡ false) r rs other)))
    (all_apart moment before q rs (All-tail (λ (p : Policy). bytes_eq p.id q.id ≡ false) r rs other) (All-tail (NotIn before) r rs none))

-- policies of one moment after others, with distinct identifiers that none of the others has
behind : (moment : ℕ) (before : List (Published Policy)) (policies : List Policy) → All (NotIn before) policies → are_distinct (map (λ (q : Policy). q.id) policies) ≡ true
    → All (λ q. IsFirst (before ++ map (dated moment) policies) (dated moment q)) policies
behind moment before [] new differ = All-nil (λ (q : Policy). IsFirst (before ++ []) (dated moment q))
behind moment before (q ∷ qs) new differ =
    let parts = and_parts (not (is_among (map (λ (r : Policy). r.id) qs) q.id)) (are_distinct (map (λ (r : Policy). r.id) qs)) differ in
    let this = dated moment q in
    let tail = map (dated moment) qs in
    let here : find (has q.id) (before ++ this ∷ tail) ≡ Some this =
    find_late (has q.id) before (this ∷ tail) (All-head (NotIn before) q qs new) ∙ ap (λ b. cond b (Some this) (find (has q.id) tail)) (same_bytes q.id) in
    let fresh : All (NotIn (before ++ this ∷ [])) qs = all_apart moment before q qs (apart q.id qs (false_of _ parts.0)) (All-tail (NotIn before) q qs new) in
    let rest : All (λ r. IsFirst ((before ++ this ∷ []) ++ tail) (dated moment r)) qs = behind moment (before ++ this ∷ []) qs fresh parts.1 in
    All-cons (λ r. IsFirst (before ++ this ∷ tail) (dated moment r)) q qs here (subst (λ all. All (λ r. IsFirst all (dated moment r)) qs) (append_assoc before (this ∷ []) tail) rest)

flat_one : (p : Publication) → published_policies (p ∷ []) ≡ map (dated p.moment) p.policies
flat_one p = append-nil (map (dated p.moment) p.policies)

AllFirst : List Publication → Type 0
AllFirst publications = All (IsFirst (published_policies publications)) (published_policies publications)

-- one more lawful publication
one_more : (taken : List Publication) (p : Publication) → is_lawful taken p ≡ true → AllFirst taken → AllFirst (taken ++ p ∷ [])
unfolding AllFirst
one_more taken p lawful first =
    let parts8 = and_parts _ _ lawful in
    let parts7 = and_parts _ _ parts8.0 in
    let parts6 = and_parts _ _ parts7.0 in
    let parts5 = and_parts _ _ parts6.0 in
    let parts4 = and_parts _ (is_none (first_published taken p)) parts5.0 in
    let parts3 = and_parts _ (are_distinct p.withdrawn) parts4.0 in
    let parts2 = and_parts _ (are_distinct (policy_ids p)) parts3.0 in
    let old = published_policies taken in
    let new = map (dated p.moment) p.policies in
    let unpublished : find (is_policy_published taken) (policy_ids p) ≡ None = second_none (find (is_geography_published taken) (geography_ids p)) _ parts4.1 in
    let absent : All (λ (q : Policy). find (has q.id) old ≡ None) p.policies =
    All-weaker (λ (q : Policy). is_policy_published taken q.id ≡ false) (λ (q : Policy). find (has q.id) old ≡ None) (λ q h. none_if (find (has q.id) old) h) p.policies
    (from_map (λ id. is_policy_published taken id ≡ false) (λ (q : Policy). q.id) p.policies (each_fails (is_policy_published taken) (policy_ids p) unpublished)) in
    let all : All (IsFirst (old ++ new)) (old ++ new) =
    All-append (IsFirst (old ++ new)) old new
    (All-weaker (IsFirst old) (IsFirst (old ++ new)) (λ q h. find_early (has q.document.id) old new q h) old first)
    (All-map (IsFirst (old ++ new)) (dated p.moment) p.policies (behind p.moment old p.policies absent parts2.1)) in
    let whole : published_policies (taken ++ p ∷ []) ≡ old ++ new = flat_map-append (λ (q : Publication). map (dated q.moment) q.policies) taken (p ∷ []) ∙ ap (λ xs. old ++ xs) (flat_one p) in
    subst (λ ps. All (IsFirst ps) ps) (sym whole) all

-- publications that are lawful after those that were taken
all_first : (taken rest : List Publication) → ((before others : List Publication) (p : Publication) → rest ≡ before ++ p ∷ others → is_lawful (taken ++ before) p ≡ true) → AllFirst taken → AllFirst (taken ++ rest)
unfolding AllFirst
all_first taken [] lawful first = subst (λ ps. AllFirst ps) (sym (append-nil taken)) first
all_first taken (p ∷ ps) lawful first =
    let here : is_lawful taken p ≡ true = ap (λ all. is_lawful all p) (sym (append-nil taken)) ∙ lawful [] ps p refl in
    let next = all_first (taken ++ p ∷ []) ps (λ before others q is. ap (λ all. is_lawful all q) (append_assoc taken (p ∷ []) before) ∙ lawful (p ∷ before) others q (ap (λ all. p ∷ all) is)) (one_more taken p here first) in
    subst (λ all. AllFirst all) (append_assoc taken (p ∷ []) ps) next

own_if : (publications : List Publication) (p : Published Policy) → IsFirst (published_policies publications) p → IsOfItsId publications p.document
own_if publications p is = ap (option_map (λ q. q.document)) is

-- each policy in force is the published one with its identifier
pub all_own : (publications : List Publication) (operator : List ℕ) (t : ℕ) (policies : List (lent.Published program.Policy)) → AreLawful publications → map lent_policy policies ≡ in_force publications operator t
    → All (λ p. IsOfItsId publications (lent_policy p).document) policies
unfolding AllFirst
all_own publications operator t policies lawful are =
    let first : All (IsFirst (published_policies publications)) (published_policies publications) = all_first [] publications lawful (All-nil (IsFirst [])) in
    let own : All (λ p. IsOfItsId publications p.document) (published_policies publications) =
    All-weaker (IsFirst (published_policies publications)) (λ p. IsOfItsId publications p.document) (own_if publications) (published_policies publications) first in
    let forced : All (λ p. IsOfItsId publications p.document) (in_force publications operator t) =
    All-filter (is_in_force publications operator t) (λ p. IsOfItsId publications p.document) (published_policies publications) own in
    from_map (λ p. IsOfItsId publications p.document) lent_policy policies (subst (All (λ p. IsOfItsId publications p.document)) (sym are) forced)

-- what is found at an identifier is the published policy with its own identifier
pub found_own : (publications : List Publication) (id : List ℕ) (p : Published Policy) → Some p ≡ find_policy publications id → IsOfItsId publications p.document
found_own publications id p found =
    let own : p.document.id ≡ id = (bytes_eq-Decides p.document.id id).0 (passes (published_policies publications) (sym found)) in
    ap (λ i. option_map (λ q. q.document) (find_policy publications i)) own ∙ ap (option_map (λ q. q.document)) (sym found)
  where
    passes : (all : List (Published Policy)) → find (has id) all ≡ Some p → has id p ≡ true
    passes [] h = absurd (cc)
    passes (q ∷ qs) h = by (has id q) refl h (passes qs)
      where
        by : (b : Bool) → has id q ≡ b → cond b (Some q) (find (has id) qs) ≡ Some p → (find (has id) qs ≡ Some p → has id p ≡ true) → has id p ≡ true
        by true is h rest = ap (has id) (let same : p ≡ q = cc in same) ∙ is
        by false is h rest = rest h
