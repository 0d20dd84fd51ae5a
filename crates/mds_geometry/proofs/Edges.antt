-- Laws of edges, for the laws of what a polygon holds.
use Rattle.std.proofs.Common.{arith, ◌≡◌, sym, ◌∙◌, ap, refl, ℕ, suc, zero, ◌+◌, ◌≤◌, ◌<◌, Bool, true, false, ◌&&◌, ◌||◌, List, [], ◌∷◌, ◌++◌, append_assoc, map, reverse, length, get_or, ℤ, pos, ◌-ℤ◌, neg_ℤ}
use Rattle.std.specs.Prelude.{int_lt, int_le}
use Rattle.std.specs.Ordering.{int_eq}
use Rattle.std.specs.List.{Contains}
use Rattle.std.proofs.Math.IntN.{zero-*ℤ, *ℤ-zero}
use Rattle.std.proofs.lemmas.Bool.{or_left, or_right}
use Rattle.std.proofs.lemmas.Int.{ints}
use Rattle.std.proofs.lemmas.List.{reverse-append}
use Rattle.std.proofs.lemmas.List.Sums.{sum_by-cons, sum_by-append}
use Rattle.std.proofs.lemmas.List.Folds.{list_any-append}
use Rattle.std.proofs.lemmas.List.Sorted.{IsPermutation-reverse, list_any-IsPermutation, sum_by-IsPermutation}
use Rattle.mds_geometry.specs.declared.position.Position.{Position}
use Rattle.mds_geometry.specs.Inside.{edges, edges_of_ring, turn, is_between, is_on, rises_past, is_crossed, touches, crossings, holds}

-- ---- a reversed edge

pub turn-swap : (from to at : Position) → turn to from at ≡ neg_ℤ (turn from to at)
turn-swap from to at = omega (arith, ints)

int_eq-neg : (z : ℤ) → int_eq (neg_ℤ z) (pos 0) ≡ int_eq z (pos 0)
int_eq-neg z = grind (arith, ints)

int_lt-neg : (z : ℤ) → int_lt (pos 0) (neg_ℤ z) ≡ int_lt z (pos 0)
int_lt-neg z = grind (arith, ints)

neg-int_lt : (z : ℤ) → int_lt (neg_ℤ z) (pos 0) ≡ int_lt (pos 0) z
neg-int_lt z = grind (arith, ints)

or_comm : (a b : Bool) → (a || b) ≡ (b || a)
or_comm false false = refl
or_comm false true = refl
or_comm true false = refl
or_comm true true = refl

is_between-swap : (a b x : ℤ) → is_between b a x ≡ is_between a b x
is_between-swap a b x = or_comm (int_le b x && int_le x a) (int_le a x && int_le x b)

pub is_on-swap : (from to at : Position) → is_on to from at ≡ is_on from to at
is_on-swap from to at =
    rw (is_between-swap from.lat to.lat at.lat, is_between-swap from.lng to.lng at.lng, turn-swap from to at, int_eq-neg (turn from to at)) refl

pub is_crossed-swap : (from to at : Position) → is_crossed to from at ≡ is_crossed from to at
is_crossed-swap from to at =
    rw (turn-swap from to at, int_lt-neg (turn from to at), neg-int_lt (turn from to at))
    (or_comm (rises_past to from at && int_lt (turn from to at) (pos 0)) (rises_past from to at && int_lt (pos 0) (turn from to at)))

-- ---- a reversed ring

swap : Position × Position → Position × Position
swap e = (e.1, e.0)

reverse-cons : {X : Type 0} (x : X) (xs : List X) → reverse (x ∷ xs) ≡ reverse xs ++ x ∷ []
reverse-cons x xs = reverse-append (x ∷ []) xs

-- one more position at the end of a ring makes one more edge
edges_of_ring-push : (xs : List Position) (y z : Position) → edges_of_ring ((xs ++ y ∷ []) ++ z ∷ []) ≡ edges_of_ring (xs ++ y ∷ []) ++ (y, z) ∷ []
edges_of_ring-push [] y z = refl
edges_of_ring-push (x ∷ []) y z = refl
edges_of_ring-push (x ∷ w ∷ xs) y z = ap (λ es. (x, w) ∷ es) (edges_of_ring-push (w ∷ xs) y z)

edges_of_ring-reverse : (ring : List Position) → edges_of_ring (reverse ring) ≡ reverse (map swap (edges_of_ring ring))
unfolding swap
edges_of_ring-reverse [] = refl
edges_of_ring-reverse (x ∷ []) = refl
edges_of_ring-reverse (x ∷ y ∷ ring) =
    ap edges_of_ring (reverse-cons x (y ∷ ring) ∙ ap (λ r. r ++ x ∷ []) (reverse-cons y ring))
    ∙ edges_of_ring-push (reverse ring) y x
    ∙ ap (λ r. edges_of_ring r ++ (y, x) ∷ []) (sym (reverse-cons y ring))
    ∙ ap (λ es. es ++ (y, x) ∷ []) (edges_of_ring-reverse (y ∷ ring))
    ∙ sym (reverse-cons (y, x) (map swap (edges_of_ring (y ∷ ring))))

touches-swap : (es : List (Position × Position)) (at : Position) → touches (map swap es) at ≡ touches es at
unfolding swap
touches-swap [] at = refl
touches-swap (e ∷ es) at = rw (is_on-swap e.0 e.1 at, touches-swap es at) refl

crossings-swap : (es : List (Position × Position)) (at : Position) → crossings (map swap es) at ≡ crossings es at
unfolding swap
crossings-swap [] at = refl
crossings-swap (e ∷ es) at =
    sum_by-cons _ (swap e) (map swap es) ∙ rw (is_crossed-swap e.0 e.1 at, crossings-swap es at) (sym (sum_by-cons _ e es))

pub touches-reverse : (ring : List Position) (at : Position) → touches (edges_of_ring (reverse ring)) at ≡ touches (edges_of_ring ring) at
touches-reverse ring at =
    ap (λ es. touches es at) (edges_of_ring-reverse ring)
    ∙ sym (list_any-IsPermutation _ _ _ (IsPermutation-reverse (map swap (edges_of_ring ring))))
    ∙ touches-swap (edges_of_ring ring) at

pub crossings-reverse : (ring : List Position) (at : Position) → crossings (edges_of_ring (reverse ring)) at ≡ crossings (edges_of_ring ring) at
crossings-reverse ring at =
    ap (λ es. crossings es at) (edges_of_ring-reverse ring)
    ∙ sum_by-IsPermutation _ _ _ (IsPermutation-reverse (map swap (edges_of_ring ring)))
    ∙ crossings-swap (edges_of_ring ring) at

-- ---- a polygon's edges, ring by ring

edges-append : (before after : List (List Position)) → edges (before ++ after) ≡ edges before ++ edges after
edges-append [] after = refl
edges-append (ring ∷ before) after = ap (λ es. edges_of_ring ring ++ es) (edges-append before after) ∙ sym (append_assoc (edges_of_ring ring) (edges before) (edges after))

pub touches-middle :
    (before after : List (List Position)) (ring : List Position) (at : Position)
    → touches (edges (before ++ ring ∷ after)) at ≡ (touches (edges before) at || (touches (edges_of_ring ring) at || touches (edges after) at))
touches-middle before after ring at =
    ap (λ es. touches es at) (edges-append before (ring ∷ after)) ∙ list_any-append _ (edges before) _
    ∙ ap (λ b. touches (edges before) at || b) (list_any-append _ (edges_of_ring ring) _)

pub crossings-middle :
    (before after : List (List Position)) (ring : List Position) (at : Position)
    → crossings (edges (before ++ ring ∷ after)) at ≡ crossings (edges before) at + (crossings (edges_of_ring ring) at + crossings (edges after) at)
crossings-middle before after ring at =
    ap (λ es. crossings es at) (edges-append before (ring ∷ after)) ∙ sum_by-append _ (edges before) _
    ∙ ap (λ n. crossings (edges before) at + n) (sum_by-append _ (edges_of_ring ring) _)

-- a ring may be exchanged for another to which the position lies in the same way
pub holds-middle :
    (before after : List (List Position)) (ring other : List Position) (at : Position)
    → touches (edges_of_ring other) at ≡ touches (edges_of_ring ring) at
    → crossings (edges_of_ring other) at ≡ crossings (edges_of_ring ring) at
    → holds (before ++ other ∷ after) at ≡ holds (before ++ ring ∷ after) at
unfolding holds
holds-middle before after ring other at t n =
    rw (touches-middle before after other at, crossings-middle before after other at, touches-middle before after ring at, crossings-middle before after ring at, t, n) refl

-- ---- vertices

sub-same : (a : ℤ) → a -ℤ a ≡ pos 0
sub-same a = omega (arith, ints)

turn-start : (from to : Position) → turn from to from ≡ pos 0
turn-start from to =
    rw (sub-same from.lng, sub-same from.lat, zero-*ℤ (to.lat -ℤ from.lat), *ℤ-zero (to.lng -ℤ from.lng)) refl

turn-end : (from to : Position) → turn from to to ≡ pos 0
turn-end from to =
    rw (sub-same to.lng, sub-same to.lat, zero-*ℤ (from.lat -ℤ to.lat), *ℤ-zero (from.lng -ℤ to.lng)) refl

is_between-start : (a b : ℤ) → is_between a b a ≡ true
is_between-start a b = grind (arith, ints)

is_between-end : (a b : ℤ) → is_between a b b ≡ true
is_between-end a b = grind (arith, ints)

is_on-start : (from to at : Position) → from ≡ at → is_on from to at ≡ true
is_on-start from to at e =
    rw (← e, is_between-start from.lat to.lat, is_between-start from.lng to.lng, turn-start from to) refl

is_on-end : (from to at : Position) → to ≡ at → is_on from to at ≡ true
is_on-end from to at e =
    rw (← e, is_between-end from.lat to.lat, is_between-end from.lng to.lng, turn-end from to) refl

vertex_touches :
    (k : ℕ) (x y : Position) (rest : List Position) (v : Position)
    → k < length (x ∷ y ∷ rest) → get_or (x ∷ y ∷ rest) k v ≡ v → touches (edges_of_ring (x ∷ y ∷ rest)) v ≡ true
vertex_touches zero x y rest v lt e = or_left (is_on x y v) _ (is_on-start x y v e)
vertex_touches (suc zero) x y rest v lt e = or_left (is_on x y v) _ (is_on-end x y v e)
vertex_touches (suc (suc k)) x y [] v lt e = absurd (omega arith)
vertex_touches (suc (suc k)) x y (z ∷ rest) v lt e =
    or_right (is_on x y v) _ (vertex_touches (suc k) y z rest v (omega arith) e)

-- a position on an edge of a ring is on an edge of its polygon
ring_touches :
    (k : ℕ) (rings : List (List Position)) (ring : List Position) (at : Position)
    → k < length rings → get_or rings k ring ≡ ring → touches (edges_of_ring ring) at ≡ true → touches (edges rings) at ≡ true
ring_touches k [] ring at lt e t = absurd (omega arith)
ring_touches zero (r ∷ rings) ring at lt e t =
    list_any-append _ (edges_of_ring r) (edges rings) ∙ or_left _ _ (ap (λ s. touches (edges_of_ring s) at) e ∙ t)
ring_touches (suc k) (r ∷ rings) ring at lt e t =
    list_any-append _ (edges_of_ring r) (edges rings) ∙ or_right (touches (edges_of_ring r) at) _ (ring_touches k rings ring at (omega arith) e t)

pub holds_vertex :
    (rings : List (List Position)) (ring : List Position) (vertex : Position)
    → Contains rings ring → 2 ≤ length ring → Contains ring vertex → holds rings vertex ≡ true
unfolding holds
holds_vertex rings [] vertex among long c = absurd (omega arith)
holds_vertex rings (x ∷ []) vertex among long c = absurd (omega arith)
holds_vertex rings (x ∷ y ∷ rest) vertex among long c =
    or_left _ _ (ring_touches among.0 rings (x ∷ y ∷ rest) vertex among.1 among.2 (vertex_touches c.0 x y rest vertex c.1 c.2))
