-- What compaction keeps, with one report more.
use Rattle.std.proofs.Common.{◌≡◌, ℕ, zero, suc, ◌<◌, ◌≤◌, Bool, true, false, cond, List, [], ◌∷◌, ◌++◌, length, map, take, get_or, Some, None, refl, sym, ap, subst, ◌∙◌, arith}
use Rattle.std.specs.Prelude.{◌==◌, bytes_eq, reverse, slice_get, option_map}
use Rattle.std.proofs.lemmas.List.{reverse-append, length-take-le, get_or-take}
use Rattle.std.proofs.lemmas.Option.{slice_get-map, slice_get-get_or}
use Rattle.std.proofs.lemmas.Slice.Eq.{bytes_eq-Decides}
use Rattle.mds_fleet.specs.Books.{Report}
use Rattle.journal_laws.specs.Persisted.{run_begun, thinned}
use Rattle.journal_laws.specs.Compaction.{ThinsTo}

head_is : (a b : Report) (r s : List Report) → a ∷ r ≡ b ∷ s → a ≡ b
head_is a b r s e = cc

second_is : (a b c d : Report) → a ∷ b ∷ [] ≡ c ∷ d ∷ [] → b ≡ d
second_is a b c d e = cc

no_head : (b : Report) (s : List Report) → [] ≡ b ∷ s → ⊥
no_head b s e = cc

pub grown : (r : List Report) (x last first : Report) (same : Bool) → thinned r ≡ last ∷ first ∷ [] → bytes_eq last.state x.state ≡ same
    → thinned (x ∷ r) ≡ x ∷ cond same first x ∷ []
grown [] x last first same is by = absurd (no_head last (first ∷ []) is)
grown (y ∷ earlier) x last first true is by =
    let here : y ≡ last = head_is y last (run_begun y.state y earlier ∷ []) (first ∷ []) is in
    let run : run_begun y.state y earlier ≡ first = second_is y (run_begun y.state y earlier) last first is in
    let test : bytes_eq y.state x.state ≡ true = ap (λ (z : Report). bytes_eq z.state x.state) here ∙ by in
    let state : y.state ≡ x.state = (bytes_eq-Decides y.state x.state).0 test in
    ap (λ (b : Bool). x ∷ cond b (run_begun x.state y earlier) x ∷ []) test
    ∙ ap (λ (s : List ℕ). x ∷ run_begun s y earlier ∷ []) (sym state) ∙ ap (λ (z : Report). x ∷ z ∷ []) run
grown (y ∷ earlier) x last first false is by =
    let here : y ≡ last = head_is y last (run_begun y.state y earlier ∷ []) (first ∷ []) is in
    let test : bytes_eq y.state x.state ≡ false = ap (λ (z : Report). bytes_eq z.state x.state) here ∙ by in
    ap (λ (b : Bool). x ∷ cond b (run_begun x.state y earlier) x ∷ []) test

some_of : {X : Type 0} (x : X) → None ≡ Some x → ⊥
some_of x e = cc

before : (xs : List Report) (x y : Report) (place : ℕ) → slice_get xs place ≡ Some y → slice_get (xs ++ x ∷ []) place ≡ Some y
before [] x y place is = absurd (some_of y is)
before (z ∷ xs) x y zero is = is
before (z ∷ xs) x y (suc place) is = before xs x y place is

at_end : (xs : List Report) (x : Report) → slice_get (xs ++ x ∷ []) (length xs) ≡ Some x
at_end [] x = refl
at_end (y ∷ xs) x = at_end xs x

-- the report continues the run
pub goes_on : (xs : List Report) (x : Report) (begun last : ℕ) → (t : ThinsTo xs begun last) → bytes_eq t.last_kept.state x.state ≡ true
    → reverse (xs ++ x ∷ []) ≡ x ∷ reverse xs → ThinsTo (xs ++ x ∷ []) begun (length xs)
goes_on xs x begun last t same turned = record {
  first_kept = t.first_kept;
  last_kept = x;
  at_begun = before xs x t.first_kept begun t.at_begun;
  at_last = at_end xs x;
  kept = ap thinned turned ∙ grown (reverse xs) x t.last_kept t.first_kept true t.kept same;
}

-- the report begins a run
pub begins : (xs : List Report) (x : Report) (begun last : ℕ) → (t : ThinsTo xs begun last) → bytes_eq t.last_kept.state x.state ≡ false
    → reverse (xs ++ x ∷ []) ≡ x ∷ reverse xs → ThinsTo (xs ++ x ∷ []) (length xs) (length xs)
begins xs x begun last t other turned = record {
  first_kept = x;
  last_kept = x;
  at_begun = at_end xs x;
  at_last = at_end xs x;
  kept = ap thinned turned ∙ grown (reverse xs) x t.last_kept t.first_kept false t.kept other;
}

the_same : (x y : Report) → Some x ≡ Some y → x ≡ y
the_same x y e = cc

-- one report more, which continues the run or begins one
pub step : (xs : List Report) (x y : Report) (begun after place last : ℕ) (same : Bool) → ThinsTo xs begun last → length xs ≡ place
    → slice_get xs last ≡ Some y → same ≡ bytes_eq y.state x.state → after ≡ cond same begun place → ThinsTo (xs ++ x ∷ []) after place
step xs x y begun after place last true t long is by chosen =
    let here : y ≡ t.last_kept = the_same y t.last_kept (sym is ∙ t.at_last) in
    subst (λ (n : ℕ). ThinsTo (xs ++ x ∷ []) n place) (sym chosen)
    (subst (λ (n : ℕ). ThinsTo (xs ++ x ∷ []) begun n) long
    (goes_on xs x begun last t (ap (λ (z : Report). bytes_eq z.state x.state) (sym here) ∙ sym by) (reverse-append xs (x ∷ []))))
step xs x y begun after place last false t long is by chosen =
    let here : y ≡ t.last_kept = the_same y t.last_kept (sym is ∙ t.at_last) in
    subst (λ (n : ℕ). ThinsTo (xs ++ x ∷ []) n place) (sym chosen)
    (subst (λ (n : ℕ). ThinsTo (xs ++ x ∷ []) n n) long
    (begins xs x begun last t (ap (λ (z : Report). bytes_eq z.state x.state) (sym here) ∙ sym by) (reverse-append xs (x ∷ []))))

pub alone : {R : Type 0} (document : R → Report) (reports : List R) → (length reports == 0) ≡ false → ThinsTo (map document (take 1 reports)) 0 0
alone document [] none = absurd cc
alone document (r ∷ rs) none = record { first_kept = document r; last_kept = document r; at_begun = refl; at_last = refl; kept = refl }

-- the report at an index, among those before another
pub seen_at : {R : Type 0} (document : R → Report) (reports : List R) (place last : ℕ) (r : R) → last < place → place ≤ length reports → r ≡ get_or reports last r
    → slice_get (map document (take place reports)) last ≡ Some (document r)
seen_at document reports place last r early within is =
    slice_get-map document (take place reports) last
    ∙ ap (option_map document) (slice_get-get_or (take place reports) last r (omega (arith, length-take-le place reports within, early)) ∙ ap (λ z. Some z) (get_or-take place reports last r early ∙ sym is))
