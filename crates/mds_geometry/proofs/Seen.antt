use Rattle.std.proofs.Common.{arith, ◌≡◌, inl, inr, zero-add, sym, ◌∙◌, ap, refl, ℕ, ◌+◌, Bool, true, false, not, cond, ◌⊎◌, List, [], ◌∷◌, ◌++◌, drop, length, get_or, ◌<◌, add-one}
use Rattle.std.specs.List.{zip}
use Rattle.std.proofs.lemmas.List.Sums.{sum_by-cons, sum_by-append}
use Rattle.std.proofs.lemmas.List.Folds.{list_any-append}
use Rattle.std.proofs.Math.Seq.{drop-cons}
use mathlib.Core.Bool.{beq}
use Rattle.mds_geometry.specs.declared.position.Position.{Position}
use Rattle.mds_geometry.specs.Inside.{edges, edges_of_ring, is_on, is_crossed, touches, crossings, is_odd}

-- one more crossing changes the parity
pub is_odd-more : (n : ℕ) → is_odd (1 + n) ≡ not (is_odd n)
is_odd-more n = grind arith

not-not : (b : Bool) → not (not b) ≡ b
not-not false = refl
not-not true = refl

-- a parity, changed where `odd` says so
abbrev pub turned : Bool → Bool → Bool
turned odd rest = cond odd (not rest) rest

pub turned_more : (odd crossed : Bool) (n : ℕ) → turned odd (is_odd (cond crossed 1 0 + n)) ≡ turned (cond crossed (not odd) odd) (is_odd n)
turned_more false false n = rw zero-add refl
turned_more true false n = rw zero-add refl
turned_more false true n = rw is_odd-more refl
turned_more true true n = rw is_odd-more (not-not (is_odd n))

pub turned_false : (odd : Bool) → odd ≡ turned odd false
turned_false false = refl
turned_false true = refl

pub zip_empty : (starts ends : List Position) → (length starts ≡ 0) ⊎ (length ends ≡ 0) → zip starts ends ≡ []
zip_empty [] ends done = refl
zip_empty (x ∷ xs) [] done = refl
zip_empty (x ∷ xs) (y ∷ ys) done = absurd (elim done [ inl e ↦ omega arith | inr e ↦ omega arith ])

-- a ring's edges against those that are left, which are the pairs of two lists, and the parity so
-- far
pub record IsSeen (ring : List Position) (at : Position) (starts ends : List Position) (odd : Bool) : Type 0 where
  pub touched : touches (zip starts ends) at ≡ touches (edges_of_ring ring) at
  pub parity : turned odd (is_odd (crossings (zip starts ends) at)) ≡ is_odd (crossings (edges_of_ring ring) at)

pub seen_first : (ring : List Position) (at : Position) (starts ends : List Position) → starts ≡ ring → ends ≡ drop 1 ring → IsSeen ring at starts ends false
seen_first ring at starts ends s e = rw (s, e) (record { touched = refl; parity = refl })

pub seen_on :
    (ring : List Position) (at : Position) (starts ends : List Position) (odd : Bool) (from to : Position) (ss es : List Position)
    → IsSeen ring at starts ends odd → starts ≡ from ∷ ss → ends ≡ to ∷ es → is_on from to at ≡ true
    → touches (edges_of_ring ring) at ≡ true
seen_on ring at starts ends odd from to ss es seen s e on =
    sym seen.touched ∙ rw (s, e, on) refl

pub seen_more :
    (ring : List Position) (at : Position) (starts ends : List Position) (odd : Bool) (from to : Position) (ss es : List Position) (crossed : Bool)
    → IsSeen ring at starts ends odd → starts ≡ from ∷ ss → ends ≡ to ∷ es → is_on from to at ≡ false
    → is_crossed from to at ≡ crossed → IsSeen ring at ss es (cond crossed (not odd) odd)
seen_more ring at starts ends odd from to ss es crossed seen s e on is =
    record {
      touched =
          let h : touches (zip starts ends) at ≡ touches (zip ss es) at = rw (s, e, on) refl in
          sym h ∙ seen.touched;
      parity =
          let h : crossings (zip starts ends) at ≡ cond crossed 1 0 + crossings (zip ss es) at =
          rw (s, e, ← is) (sum_by-cons (λ x. cond (is_crossed x.0 x.1 at) 1 0) (from, to) (zip ss es)) in
          sym (turned_more odd crossed (crossings (zip ss es) at)) ∙ ap (λ n. turned odd (is_odd n)) (sym h) ∙ seen.parity;
    }

pub seen_all :
    (ring : List Position) (at : Position) (starts ends : List Position) (odd : Bool)
    → IsSeen ring at starts ends odd → (length starts ≡ 0) ⊎ (length ends ≡ 0)
    → (touches (edges_of_ring ring) at ≡ false) × (odd ≡ is_odd (crossings (edges_of_ring ring) at))
seen_all ring at starts ends odd seen done =
    let none = zip_empty starts ends done in
    let parity : odd ≡ turned odd (is_odd (crossings (zip starts ends) at)) = rw none (turned_false odd) in
    let touched : false ≡ touches (zip starts ends) at = rw none refl in
    (sym seen.touched ∙ sym touched, parity ∙ seen.parity)

-- a polygon's edges against those of the rings that are left, and the parity so far
pub record IsSeenTo (rings : List (List Position)) (at : Position) (i : ℕ) (odd : Bool) : Type 0 where
  pub touched : touches (edges (drop i rings)) at ≡ touches (edges rings) at
  pub parity : turned odd (is_odd (crossings (edges (drop i rings)) at)) ≡ is_odd (crossings (edges rings) at)

pub is_odd-add : (m n : ℕ) → is_odd (m + n) ≡ turned (is_odd m) (is_odd n)
is_odd-add m n = grind arith

pub turned-turned : (odd first rest : Bool) → turned odd (turned first rest) ≡ turned (not (beq odd first)) rest
turned-turned false false rest = refl
turned-turned false true rest = refl
turned-turned true false rest = refl
turned-turned true true rest = not-not rest

pub seen_to_more :
    (rings : List (List Position)) (at : Position) (i : ℕ) (odd crosses : Bool) (ring : List Position)
    → i < length rings → ring ≡ get_or rings i ring
    → touches (edges_of_ring ring) at ≡ false → crosses ≡ is_odd (crossings (edges_of_ring ring) at)
    → IsSeenTo rings at i odd → IsSeenTo rings at (i + 1) (not (beq odd crosses))
seen_to_more rings at i odd crosses ring lt is off c seen =
    let whole : drop i rings ≡ ring ∷ drop (i + 1) rings =
    drop-cons rings i ring lt ∙ rw (← is, add-one) refl in
    let split : edges (drop i rings) ≡ edges_of_ring ring ++ edges (drop (i + 1) rings) = ap edges whole in
    let t : touches (edges (drop i rings)) at ≡ touches (edges (drop (i + 1) rings)) at =
    ap (λ es. touches es at) split ∙ list_any-append _ (edges_of_ring ring) _ ∙ rw off refl in
    let n : crossings (edges (drop i rings)) at ≡ crossings (edges_of_ring ring) at + crossings (edges (drop (i + 1) rings)) at =
    ap (λ es. crossings es at) split ∙ sum_by-append _ (edges_of_ring ring) _ in
    record {
      touched = sym t ∙ seen.touched;
      parity =
          rw c (sym (turned-turned odd _ _)) ∙ ap (turned odd) (sym (is_odd-add _ _)) ∙ ap (λ m. turned odd (is_odd m)) (sym n) ∙ seen.parity;
    }
