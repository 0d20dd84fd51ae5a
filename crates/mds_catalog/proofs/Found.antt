-- What a search finds among the documents of several publications.
use Rattle.std.proofs.Common.{◌≡◌, ℕ, Bool, true, false, cond, List, [], ◌∷◌, ◌++◌, map, find, suc, add-one, drop-cons, Some, None, option_map, length, drop, get_or, ◌+◌, ◌<◌, refl, ap, sym, ◌∙◌}
use Rattle.std.specs.List.{flat_map}
use Rattle.std.proofs.lemmas.List.{map-append, flat_map_more, length-map}
use Rattle.std.proofs.lemmas.Bool.{and_parts}
use borrow.Author.Tests.{ltb-true, leb-true}
use Rattle.std.proofs.Common.{length-append, nat_lt, nat_le, ◌≤◌}
use Rattle.std.specs.Option.{option_or}
use Rattle.std.proofs.lemmas.List.Folds.{find-append}
use Rattle.std.specs.declared.sync.Arc.{Arc}
use Rattle.std.specs.declared.alloc.Global.{Global}
use Rattle.mds_policy.specs.Policy.{Policy, Rule, policy_document, rule_document}
use Rattle.mds_policy.specs.declared.rule.Rule as rule
use Rattle.mds_policy.specs.declared.policy.Policy as policy
use Rattle.mds_catalog.specs.declared.batch.Batch.{Batch}
use Rattle.mds_catalog.specs.Publication.{Publication, publication_of, publications_in, dated, published_policies, published_geographies, fits, is_lawful}
use Rattle.mds_catalog.specs.declared.catalogue.TheConstants.{MOST_POLICIES, MOST_GEOGRAPHIES, MOST_PUBLICATIONS}

-- a search among documents of one moment
pub find-dated : {A : Type 0} (test : A → Bool) (moment : ℕ) (documents : List A) → find (λ p. test p.document) (map (dated moment) documents) ≡ option_map (dated moment) (find test documents)
find-dated test moment [] = refl
find-dated {A} test moment (d ∷ ds) =
    elim (test d) as (λ b. cond b (Some (dated moment d)) (find (λ p. test p.document) (map (dated moment) ds)) ≡ option_map (dated moment) (cond b (Some d) (find test ds))) [
      | true ↦ refl
      | false ↦ find-dated test moment ds
    ]

-- found in the first of two parts
pub find_early : {X : Type 0} (p : X → Bool) (xs ys : List X) (x : X) → find p xs ≡ Some x → find p (xs ++ ys) ≡ Some x
find_early p xs ys x h = find-append p xs ys ∙ ap (λ o. option_or o (find p ys)) h

-- not found in the first of two parts
pub find_late : {X : Type 0} (p : X → Bool) (xs ys : List X) → find p xs ≡ None → find p (xs ++ ys) ≡ find p ys
find_late p xs ys h = find-append p xs ys ∙ ap (λ o. option_or o (find p ys)) h

-- the rest of a list from an index on is the element there, and the rest after it
pub drop_at : {X : Type 0} (xs : List X) (i : ℕ) (x : X) → i < length xs → x ≡ get_or xs i x → drop i xs ≡ x ∷ drop (i + 1) xs
drop_at xs i x h e = rw (add-one, drop-cons xs i x) (ap (λ y. y ∷ drop (suc i) xs) (sym e))

-- a search in lists made of the elements from an index on: in the first of them, or in the others
pub find_at : {S D X : Type 0} (g : D → List X) (doc : S → D) (p : X → Bool) (xs : List S) (i : ℕ) (x : S) → i < length xs → x ≡ get_or xs i x → find p (flat_map g (map doc (drop i xs))) ≡ option_or (find p (g (doc x))) (find p (flat_map g (map doc (drop (i + 1) xs))))
find_at g doc p xs i x h e =
    ap (λ ys. find p (flat_map g (map doc ys))) (drop_at xs i x h e) ∙ find-append p (g (doc x)) (flat_map g (map doc (drop (i + 1) xs)))

-- the geographies of the rules from an index on
pub rules_at : (p : List ℕ → Bool) (rules : List rule.Rule) (i : ℕ) (r : rule.Rule) → i < length rules → r ≡ get_or rules i r → find p (flat_map (λ rule. rule.geographies) (map rule_document (drop i rules))) ≡ option_or (find p r.geographies.items) (find p (flat_map (λ rule. rule.geographies) (map rule_document (drop (i + 1) rules))))
rules_at p rules i r h e = find_at (λ (rule : Rule). rule.geographies) rule_document p rules i r h e

-- the geographies of the policies from an index on
pub policies_at : (p : List ℕ → Bool) (shares : List (Arc policy.Policy Global)) (i : ℕ) (share : Arc policy.Policy Global) → i < length shares → share ≡ get_or shares i share → find p (flat_map (λ policy. flat_map (λ rule. rule.geographies) policy.rules) (map (λ s. policy_document s.value) (drop i shares))) ≡ option_or (find p (flat_map (λ rule. rule.geographies) (policy_document share.value).rules)) (find p (flat_map (λ policy. flat_map (λ rule. rule.geographies) policy.rules) (map (λ s. policy_document s.value) (drop (i + 1) shares))))
policies_at p shares i share h e = find_at (λ (d : Policy). flat_map (λ (rule : Rule). rule.geographies) d.rules) (λ (s : Arc policy.Policy Global). policy_document s.value) p shares i share h e

-- the predecessors of the policies from an index on
pub predecessors_at : (p : List ℕ → Bool) (shares : List (Arc policy.Policy Global)) (i : ℕ) (share : Arc policy.Policy Global) → i < length shares → share ≡ get_or shares i share → find p (flat_map (λ policy. policy.previous) (map (λ s. policy_document s.value) (drop i shares))) ≡ option_or (find p (policy_document share.value).previous) (find p (flat_map (λ policy. policy.previous) (map (λ s. policy_document s.value) (drop (i + 1) shares))))
predecessors_at p shares i share h e = find_at (λ (d : Policy). d.previous) (λ (s : Arc policy.Policy Global). policy_document s.value) p shares i share h e

-- a batch appended
pub publications_push : (batches : List (Arc Batch Global)) (share : Arc Batch Global) → publications_in (batches ++ share ∷ []) ≡ publications_in batches ++ publication_of share.value ∷ []
publications_push batches share = map-append (λ (s : Arc Batch Global). publication_of s.value) batches (share ∷ [])

-- the number of policies with one more publication
pub length-published_policies-push : (ps : List Publication) (p : Publication) → length (published_policies (ps ++ p ∷ [])) ≡ length (published_policies ps) + length p.policies
length-published_policies-push ps p =
    ap length (sym (flat_map_more (λ (q : Publication). map (dated q.moment) q.policies) [] ps p))
    ∙ length-append (published_policies ps) (map (dated p.moment) p.policies) ∙ ap (λ n. length (published_policies ps) + n) (length-map p.policies (dated p.moment))

-- the number of geographies with one more publication
pub length-published_geographies-push : (ps : List Publication) (p : Publication) → length (published_geographies (ps ++ p ∷ [])) ≡ length (published_geographies ps) + length p.geographies
length-published_geographies-push ps p =
    ap length (sym (flat_map_more (λ (q : Publication). map (dated q.moment) q.geographies) [] ps p))
    ∙ length-append (published_geographies ps) (map (dated p.moment) p.geographies) ∙ ap (λ n. length (published_geographies ps) + n) (length-map p.geographies (dated p.moment))

-- what fits stays within the limits
pub fits_all : (ps : List Publication) (p : Publication) → fits ps p ≡ true → (length (published_policies ps) + length p.policies ≤ MOST_POLICIES) × (length (published_geographies ps) + length p.geographies ≤ MOST_GEOGRAPHIES) × (length ps < MOST_PUBLICATIONS)
fits_all ps p h =
    let parts = and_parts _ (nat_lt (length ps) MOST_PUBLICATIONS) h in
    let front = and_parts (nat_le (length (published_policies ps) + length p.policies) MOST_POLICIES) _ parts.0 in
    (leb-true _ _ front.0, leb-true _ _ front.1, ltb-true _ _ parts.1)

-- a lawful publication fits
pub lawful_fits : (ps : List Publication) (p : Publication) → is_lawful ps p ≡ true → fits ps p ≡ true
lawful_fits ps p h = (and_parts _ (fits ps p) h).1

-- there is room for a lawful publication
pub lawful_room : (ps : List Publication) (p : Publication) → is_lawful ps p ≡ true → length ps < MOST_PUBLICATIONS
lawful_room ps p lawful = (fits_all ps p (lawful_fits ps p lawful)).2
