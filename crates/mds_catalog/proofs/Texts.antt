-- The texts of documents that are borrowed.
use Rattle.std.proofs.Common.{◌≡◌, ℕ, suc, ◌<◌, Bool, true, false, cond, List, [], ◌∷◌, ◌++◌, map, filter, length, get_or, take, ◌+◌, Option, Some, None, option_map, refl, ap, sym, ◌∙◌, append_assoc, arith}
use Rattle.std.specs.Option.{option_map_or}
use Rattle.std.proofs.lemmas.List.{map-append, length-map, get_or-map, map_more, flat_map_more}
use Rattle.std.specs.declared.sync.Arc.{Arc}
use Rattle.std.specs.declared.alloc.Global.{Global}
use Rattle.mds_catalog.specs.declared.batch.Batch.{Batch}
use Rattle.mds_catalog.specs.Texts.{policy_text, geography_text}
use Rattle.mds_geography.specs.Geography.{Geography}
use Rattle.std.proofs.lemmas.List.Elements.{filter-append}
use Rattle.std.specs.declared.vec.Vec.{Vec}
use Rattle.mds_policy.specs.Policy.{Policy, policy_document}
use Rattle.mds_policy.specs.declared.policy.Policy as program
use Rattle.mds_catalog.specs.Publication.{Publication, Published, dated, publication_of, publications_in, is_meant_for, policies_for, published_policies, published_geographies}
use Rattle.mds_catalog.specs.Catalogue.{served_policy, served_geography}

-- a policy is visible to an operator, or where no operator is given
abbrev pub shown : Option (List ℕ) → Published Policy → Bool
shown operator p = option_map_or (λ o. is_meant_for o p.document) operator true

-- the texts of the visible policies
abbrev pub shown_texts : Option (List ℕ) → List (Published Policy) → List (List ℕ)
shown_texts operator ps = map served_policy (filter (shown operator) ps)

all_kept : {A : Type 0} (xs : List A) → filter (λ _. true) xs ≡ xs
all_kept [] = refl
all_kept (x ∷ xs) = ap (λ ys. x ∷ ys) (all_kept xs)

-- the visible policies are those that are meant for the operator
pub shown_texts_are : (operator : Option (List ℕ)) (publications : List Publication) → shown_texts operator (published_policies publications) ≡ map served_policy (policies_for publications operator)
shown_texts_are None publications = ap (map served_policy) (all_kept (published_policies publications))
shown_texts_are (Some operator) publications = refl

pub shown_texts-append : (operator : Option (List ℕ)) (ps qs : List (Published Policy)) → shown_texts operator (ps ++ qs) ≡ shown_texts operator ps ++ shown_texts operator qs
shown_texts-append operator ps qs =
    ap (map served_policy) (filter-append (shown operator) ps qs) ∙ map-append served_policy (filter (shown operator) ps) (filter (shown operator) qs)

-- one more policy that is visible
pub one_shown : (operator : Option (List ℕ)) (ps : List (Published Policy)) (p : Published Policy) → shown operator p ≡ true → shown_texts operator (ps ++ p ∷ []) ≡ shown_texts operator ps ++ served_policy p ∷ []
one_shown operator ps p is =
    shown_texts-append operator ps (p ∷ []) ∙ ap (λ b. shown_texts operator ps ++ map served_policy (cond b (p ∷ []) [])) is

-- one more that isn't
pub one_hidden : (operator : Option (List ℕ)) (ps : List (Published Policy)) (p : Published Policy) → shown operator p ≡ false → shown_texts operator (ps ++ p ∷ []) ≡ shown_texts operator ps ++ []
one_hidden operator ps p is =
    shown_texts-append operator ps (p ∷ []) ∙ ap (λ b. shown_texts operator ps ++ map served_policy (cond b (p ∷ []) [])) is

-- the text at an index is that of the document there
pub text_at : {A B C : Type 0} (see : B → C) (text : A → C) (texts : List B) (ds : List A) (i : ℕ) (t : B) (d : A) → map see texts ≡ map text ds → i < length ds → t ≡ get_or texts i t → see t ≡ text (get_or ds i d)
text_at see text texts ds i t d same within here =
    let first : i < length texts = omega (arith, within, ap length same, length-map texts see, length-map ds text) in
    ap see here ∙ sym (get_or-map see texts i t (text d) first) ∙ ap (λ zs. get_or zs i (text d)) same ∙ get_or-map text ds i d (text d) within

-- there are as many texts as documents
pub as_many : {A B C : Type 0} (see : B → C) (text : A → C) (texts : List B) (ds : List A) → map see texts ≡ map text ds → length texts ≡ length ds
as_many see text texts ds same = sym (length-map texts see) ∙ ap length same ∙ length-map ds text

-- the text at the index of a published document is its text
pub lent_text : {A B : Type 0} (see : B → List ℕ) (text : ℕ → A → List ℕ) (texts : List B) (ds : List A) (i m : ℕ) (t : B) (o : Option (Published A)) → map see texts ≡ map (text m) ds → i < length ds → t ≡ get_or texts i t → ((d : A) → o ≡ Some (dated m (get_or ds i d))) → Some (see t) ≡ option_map (λ p. text p.moment p.document) o
lent_text see text texts [] i m t o same within here is = absurd (omega (arith, within))
lent_text {A} see text texts (e ∷ ds) i m t o same within here is =
    ap Some (text_at see (text m) texts (e ∷ ds) i t e same within here) ∙ ap (option_map (λ (p : Published A). text p.moment p.document)) (sym (is e))

fused : {A B C : Type 0} (g : B → C) (f : A → B) (xs : List A) → map g (map f xs) ≡ map (λ x. g (f x)) xs
fused g f [] = refl
fused g f (x ∷ xs) = ap (λ ys. g (f x) ∷ ys) (fused g f xs)

-- the geographies of one more batch
pub geographies_more : (batches : List (Arc Batch Global)) (i : ℕ) (x : Arc Batch Global) → i < length batches → x ≡ get_or batches i x → map served_geography (published_geographies (publications_in (take (i + 1) batches))) ≡ map served_geography (published_geographies (publications_in (take i batches))) ++ map (geography_text x.value.moment) (publication_of x.value).geographies
geographies_more batches i x within is =
    let f : Arc Batch Global → Publication = λ y. publication_of y.value in
    let p = publication_of x.value in
    let each : Publication → List (Published Geography) = λ q. map (dated q.moment) q.geographies in
    let more : publications_in (take (i + 1) batches) ≡ publications_in (take i batches) ++ p ∷ [] = map_more f batches i x within ∙ ap (λ y. map f (take i batches) ++ y ∷ []) (ap f (sym is)) in
    ap (λ ps. map served_geography (published_geographies ps)) more
    ∙ ap (map served_geography) (sym (flat_map_more each [] (publications_in (take i batches)) p))
    ∙ map-append served_geography (published_geographies (publications_in (take i batches))) (map (dated p.moment) p.geographies)
    ∙ ap (λ ts. map served_geography (published_geographies (publications_in (take i batches))) ++ ts) (fused served_geography (dated p.moment) p.geographies)

shown_one : (b : Bool) (m : ℕ) (d : Policy) (text : List ℕ) → text ≡ policy_text m d → cond b (text ∷ []) [] ≡ map served_policy (cond b (dated m d ∷ []) [])
shown_one true m d text is = ap (λ t. t ∷ []) is
shown_one false m d text is = refl

-- the texts with one more policy of a batch
pub texts_more : (operator : Option (List ℕ)) (ps : List (Published Policy)) (m : ℕ) (shares : List (Arc program.Policy Global)) (texts : List (Vec ℕ Global)) (i : ℕ) (share : Arc program.Policy Global) (t : Vec ℕ Global) (b : Bool) (before after : List (List ℕ)) → map (λ t. t.items) texts ≡ map (policy_text m) (map (λ s. policy_document s.value) shares) → i < length shares → share ≡ get_or shares i share → t ≡ get_or texts i t → b ≡ shown operator (dated m (policy_document share.value)) → after ≡ before ++ cond b (t.items ∷ []) [] → before ≡ shown_texts operator (ps ++ map (dated m) (map (λ s. policy_document s.value) (take i shares))) → after ≡ shown_texts operator (ps ++ map (dated m) (map (λ s. policy_document s.value) (take (i + 1) shares)))
texts_more operator ps m shares texts i share t b before after same within is there b_is grown so_far =
    let doc : Arc program.Policy Global → Policy = λ s. policy_document s.value in
    let d = doc share in
    let old = map (dated m) (map doc (take i shares)) in
    let here : get_or (map doc shares) i d ≡ d = get_or-map doc shares i share d within ∙ ap doc (sym is) in
    let text : t.items ≡ policy_text m d = text_at (λ (t : Vec ℕ Global). t.items) (policy_text m) texts (map doc shares) i t d same (omega (arith, within, length-map shares doc)) there ∙ ap (policy_text m) here in
    let docs : map doc (take (i + 1) shares) ≡ map doc (take i shares) ++ d ∷ [] = map_more doc shares i share within ∙ ap (λ y. map doc (take i shares) ++ y ∷ []) (ap doc (sym is)) in
    let all : ps ++ map (dated m) (map doc (take (i + 1) shares)) ≡ (ps ++ old) ++ dated m d ∷ [] =
    ap (λ ds. ps ++ map (dated m) ds) docs ∙ ap (λ qs. ps ++ qs) (map-append (dated m) (map doc (take i shares)) (d ∷ [])) ∙ sym (append_assoc ps old (dated m d ∷ [])) in
    grown
    ∙ ap (λ ts. ts ++ cond b (t.items ∷ []) []) so_far
    ∙ ap (λ ts. shown_texts operator (ps ++ old) ++ ts) (shown_one b m d t.items text ∙ ap (λ b'. map served_policy (cond b' (dated m d ∷ []) [])) b_is)
    ∙ sym (shown_texts-append operator (ps ++ old) (dated m d ∷ []))
    ∙ ap (shown_texts operator) (sym all)
