-- Desks and their locks, each at its index.
use Rattle.std.proofs.Common.{◌≡◌, ℕ, ◌+◌, ◌<◌, List, [], ◌∷◌, ◌++◌, length, map, get_or, refl, sym, ap, subst, ◌∙◌, arith, length-append}
use Rattle.std.specs.List.{range_with_len}
use Rattle.std.proofs.Math.ListN.{get_or-map}
use Rattle.std.proofs.Math.Seq.{get_or-append_seam}
use Rattle.std.proofs.lemmas.Option.{slice_get_within, slice_get_read, get_or_from_slice_get}
use Rattle.std.proofs.lemmas.List.{length-map, map-append, map-id}
use Rattle.std.proofs.lemmas.List.FromFn.{length-range_with_len, get_or-range_with_len, get_or-map-range_with_len, length-map-range_with_len, map-range_with_len_more}
use Rattle.mds_request.specs.Configuration.{Configuration}
use Rattle.mds_desk.specs.Desk.{DeskState, new_desk, new_desks}
use Rattle.server_state.specs.Turn.{AreDesksOf, IsDeskAt}

-- there are as many locks as indices
pub as_many : {L : Type 0} (place : L → ℕ) (locks : List L) (n : ℕ) → map place locks ≡ range_with_len 0 n → length locks ≡ n
as_many place locks n in_order = sym (length-map locks place) ∙ ap length in_order ∙ length-range_with_len 0 n

-- the lock at an index is that of this index
pub in_place : {L : Type 0} (place : L → ℕ) (locks : List L) (n k : ℕ) (d : L) → map place locks ≡ range_with_len 0 n → k < n → place (get_or locks k d) ≡ k
in_place place locks n k d in_order within =
    let here : get_or (range_with_len 0 n) k (place d) ≡ k = omega (arith, get_or-range_with_len 0 n k (place d) within) in
    sym (get_or-map place locks k d) ∙ ap (λ places. get_or places k (place d)) in_order ∙ here

-- the new desks of a configuration are its desks
pub new_are_its : (configuration : Configuration) (desks : List DeskState) → desks ≡ new_desks configuration → AreDesksOf configuration desks
new_are_its configuration desks made =
    let n = length configuration.operators in
    let long : length desks ≡ n = ap length made ∙ length-map-range_with_len (new_desk configuration) 0 n in
    record {
      long = long;
      each = λ place d there.
          let within : place < n = subst (λ m. place < m) long (slice_get_within desks place d there) in
          let here : d ≡ new_desk configuration place =
          sym (get_or_from_slice_get desks place d d there) ∙ ap (λ ds. get_or ds place d) made
          ∙ get_or-map-range_with_len (new_desk configuration) 0 n place place d within (omega arith) in
          record { configured = ap (λ s. s.configuration) here; placed = ap (λ s. s.place) here };
    }

-- of the desks of a configuration, the one after so many has that number as its index
pub at_its_place : {D : Type 0} (state : D → DeskState) (configuration : Configuration) (desks before : List D) (d : D) (after : List D)
    → AreDesksOf configuration (map state desks) → before ++ d ∷ after ≡ desks → (n : ℕ) → n ≡ length before → IsDeskAt configuration n (state d)
at_its_place state configuration desks before d after are all n is =
    let whole : map state before ++ state d ∷ map state after ≡ map state desks = sym (map-append state before (d ∷ after)) ∙ ap (map state) all in
    let far : length (map state before) ≡ n = length-map before state ∙ sym is in
    let here : get_or (map state desks) n (state d) ≡ state d =
    ap (λ ds. get_or ds n (state d)) (sym whole) ∙ ap (λ k. get_or (map state before ++ state d ∷ map state after) k (state d)) (sym far)
    ∙ get_or-append_seam (map state before) (state d) (map state after) (state d) in
    let within : n < length (map state desks) = omega (arith, far, ap length whole, length-append (map state before) (state d ∷ map state after)) in
    are.each n (state d) (slice_get_read (map state desks) (length (map state desks)) n (state d) refl within (sym here))

-- there are as many desks as operators
pub one_each : {D : Type 0} (state : D → DeskState) (configuration : Configuration) (desks : List D) → AreDesksOf configuration (map state desks)
    → length desks ≡ length configuration.operators
one_each state configuration desks are = sym (length-map desks state) ∙ are.long

range_more : (n : ℕ) → range_with_len 0 (n + 1) ≡ range_with_len 0 n ++ n ∷ []
range_more n = sym (map-id (range_with_len 0 (n + 1))) ∙ map-range_with_len_more (λ k. k) 0 n n (omega arith) ∙ ap (λ xs. xs ++ n ∷ []) (map-id (range_with_len 0 n))

-- one more lock, at the next index
pub one_more : {L : Type 0} (place : L → ℕ) (locks all : List L) (next : L) (n m : ℕ)
    → all ≡ locks ++ next ∷ [] → place next ≡ n → m ≡ n + 1 → map place locks ≡ range_with_len 0 n → map place all ≡ range_with_len 0 m
one_more place locks all next n m more is long so_far =
    ap (map place) more ∙ map-append place locks (next ∷ []) ∙ ap (λ xs. xs ++ place next ∷ []) so_far ∙ ap (λ x. range_with_len 0 n ++ x ∷ []) is
    ∙ sym (range_more n) ∙ ap (range_with_len 0) (sym long)

-- one more lock, which is to it what its desk is
pub one_more_as : {L D X : Type 0} (f : L → X) (g : D → X) (locks all : List L) (next : L) (desks : List D) (d : D)
    → all ≡ locks ++ next ∷ [] → f next ≡ g d → map f locks ≡ map g desks → map f all ≡ map g (desks ++ d ∷ [])
one_more_as f g locks all next desks d more is so_far =
    ap (map f) more ∙ map-append f locks (next ∷ []) ∙ ap (λ xs. xs ++ f next ∷ []) so_far ∙ ap (λ x. map g desks ++ x ∷ []) is
    ∙ sym (map-append g desks (d ∷ []))

pub empty : {D : Type 0} (desks : List D) → length desks ≡ 0 → desks ≡ []
empty [] none = refl
empty (d ∷ desks) none = absurd (omega (arith, none))
