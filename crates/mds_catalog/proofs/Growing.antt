-- Publications are appended, and a successor stays effective.
use Rattle.std.proofs.Common.{◌≡◌, ℕ, ◌≤◌, nat_le, ◌&&◌, ◌||◌, Bool, true, false, cond, List, [], ◌∷◌, ◌++◌, refl, sym, ap, ◌∙◌, bytes_eq, find, map, arith}
use Rattle.std.specs.List.{list_any}
use Rattle.std.proofs.lemmas.Bool.{and_parts}
use Rattle.std.proofs.lemmas.List.{append_assoc, append-nil}
use Rattle.std.proofs.lemmas.Bool.Decides.{nat_tests}
use Rattle.std.proofs.lemmas.Grind.{flat_map-append}
use Rattle.mds_policy.specs.Policy.{Policy}
use Rattle.mds_catalog.specs.Publication.{Publication, Published, published_policies, published_geographies, dated, supersedes, is_effective, is_among, is_lawful, extended}
use Rattle.mds_catalog.specs.Laws.{FoldKeepsLawful, FoldGoesOn, folded_onto, StaysPublished, StaysOver}
use Rattle.mds_catalog.proofs.Found.{find_early}

-- publications are lawful after those that were taken
LawfulBehind : List Publication → List Publication → Type 0
LawfulBehind taken ps = (before rest : List Publication) (p : Publication) → ps ≡ before ++ p ∷ rest → is_lawful (taken ++ before) p ≡ true

kept_behind : (taken ps : List Publication) → LawfulBehind taken ps → folded_onto taken ps ≡ taken ++ ps
unfolding LawfulBehind
kept_behind taken [] h = sym (append-nil taken)
kept_behind taken (p ∷ ps) h =
    let now : extended taken p ≡ taken ++ p ∷ [] = ap (λ b. cond b (taken ++ p ∷ []) taken) (ap (λ all. is_lawful all p) (sym (append-nil taken)) ∙ h [] ps p refl) in
    let next : LawfulBehind (taken ++ p ∷ []) ps = λ before rest q e. ap (λ all. is_lawful all q) (append_assoc taken (p ∷ []) before) ∙ h (p ∷ before) rest q (ap (λ all. p ∷ all) e) in
    ap (λ all. folded_onto all ps) now ∙ kept_behind (taken ++ p ∷ []) ps next ∙ append_assoc taken (p ∷ []) ps

pub fold_keeps_lawful : FoldKeepsLawful
unfolding LawfulBehind
fold_keeps_lawful ps h = kept_behind [] ps (λ before rest p e. h before rest p e)

folded_on : (taken ps : List Publication) (p : Publication) → folded_onto taken (ps ++ p ∷ []) ≡ extended (folded_onto taken ps) p
folded_on taken [] p = refl
folded_on taken (q ∷ ps) p = folded_on (extended taken q) ps p

pub fold_goes_on : FoldGoesOn
fold_goes_on ps p = folded_on [] ps p

pub stays_published : StaysPublished
stays_published publications rest id = (
  λ found is. ap (λ all. find (λ p. bytes_eq p.document.id id) all) (flat_map-append (λ p. map (dated p.moment) p.policies) publications rest)
      ∙ find_early (λ p. bytes_eq p.document.id id) (published_policies publications) (published_policies rest) found is,
  λ found is. ap (λ all. find (λ g. bytes_eq g.document.id id) all) (flat_map-append (λ p. map (dated p.moment) p.geographies) publications rest)
      ∙ find_early (λ g. bytes_eq g.document.id id) (published_geographies publications) (published_geographies rest) found is,
)

both : (a b : Bool) → a ≡ true → b ≡ true → (a && b) ≡ true
both true b h k = k
both false b h k = h

or_right : (a b : Bool) → b ≡ true → (a || b) ≡ true
or_right true b h = refl
or_right false b h = h

le_later : (a t later : ℕ) → t ≤ later → nat_le a t ≡ true → nat_le a later ≡ true
le_later a t later h k = grind (arith, nat_tests)

-- a successor that is effective at a moment is effective later
later_too : (t later : ℕ) (id : List ℕ) (s : Published Policy) → t ≤ later → supersedes t id s ≡ true → supersedes later id s ≡ true
later_too t later id s h is =
    let parts = and_parts (is_effective t s) (is_among s.document.previous id) is in
    let times = and_parts (nat_le s.moment t) (nat_le s.document.start t) parts.0 in
    both (is_effective later s) (is_among s.document.previous id)
    (both (nat_le s.moment later) (nat_le s.document.start later) (le_later s.moment t later h times.0) (le_later s.document.start t later h times.1))
    parts.1

any_more : {A : Type 0} (p q : A → Bool) → ((x : A) → p x ≡ true → q x ≡ true) → (xs ys : List A) → list_any p xs ≡ true → list_any q (xs ++ ys) ≡ true
any_more p q more [] ys h = absurd (cc)
any_more p q more (x ∷ xs) ys h =
    elim (p x) as (λ b. p x ≡ b → (b || list_any p xs) ≡ true → (q x || list_any q (xs ++ ys)) ≡ true) [
      | true ↦ λ is k. ap (λ c. c || list_any q (xs ++ ys)) (more x is)
      | false ↦ λ is k. or_right (q x) (list_any q (xs ++ ys)) (any_more p q more xs ys k)
    ] refl h

-- a publication that withdraws at a moment withdraws later
withdraws_later : (t later : ℕ) (id : List ℕ) (p : Publication) → t ≤ later → (nat_le p.moment t && is_among p.withdrawn id) ≡ true → (nat_le p.moment later && is_among p.withdrawn id) ≡ true
withdraws_later t later id p h is =
    let parts = and_parts (nat_le p.moment t) (is_among p.withdrawn id) is in
    both (nat_le p.moment later) (is_among p.withdrawn id) (le_later p.moment t later h parts.0) parts.1

pub stays_over : StaysOver
stays_over publications rest id t later h = (
  λ is. ap (list_any (supersedes later id)) (flat_map-append (λ p. map (dated p.moment) p.policies) publications rest)
      ∙ any_more (supersedes t id) (supersedes later id) (λ s. later_too t later id s h) (published_policies publications) (published_policies rest) is,
  λ is. any_more (λ p. nat_le p.moment t && is_among p.withdrawn id) (λ p. nat_le p.moment later && is_among p.withdrawn id) (λ p. withdraws_later t later id p h) publications rest is,
)
