-- Polygons hold nothing outside the bounds of their rings.
use Rattle.std.proofs.Common.{arith, inl, inr, ◌⊎◌, ◌≡◌, sym, ◌∙◌, ap, refl, ◌-◌, Bool, true, false, not, ◌&&◌, cond, ℤ, List, [], ◌∷◌, length, Some}
use Rattle.std.specs.Prelude.{◌≤ℤ◌, ◌<ℤ◌, int_le, slice_get}
use Rattle.std.specs.List.{All}
use Rattle.std.proofs.lemmas.Int.{ints}
use Rattle.std.proofs.lemmas.List.Elements.{All-head, All-tail, All-weaker}
use Rattle.std.proofs.lemmas.List.Sums.{sum_by-cons, sum_by-append}
use Rattle.std.proofs.lemmas.List.Folds.{list_any-append}
use Rattle.mds_geometry.specs.declared.position.Position.{Position}
use Rattle.mds_geometry.specs.declared.bounds.BoundingBox.{BoundingBox}
use Rattle.mds_geometry.specs.Area.{area_holds}
use Rattle.mds_geometry.specs.Bounds.{is_within, IsBounded, AreBounded}
use Rattle.mds_geometry.specs.Inside.{edges_of_ring, edges, is_between, is_on, is_crossed, touches, crossings, is_odd, holds}
use Rattle.mds_geometry.specs.Ring.{IsClosed}
use Rattle.mds_geometry.proofs.Seen.{turned, turned_more, is_odd-add}
use Rattle.mds_geometry.proofs.Reaching.{idle_beside}
use Rattle.mds_geometry.proofs.Signs.{above, crossed_west, crossed_east}

-- ---- a closed ring rises as often as it falls

unfoldable pub last : Position → List Position → Position
last x [] = x
last x (y ∷ rest) = last y rest

slice_get-last : (x : Position) (rest : List Position) → slice_get (x ∷ rest) (length rest) ≡ Some (last x rest)
unfolding last
slice_get-last x [] = refl
slice_get-last x (y ∷ rest) = slice_get-last y rest

pub closed_ends : (x : Position) (rest : List Position) → IsClosed (x ∷ rest) → x ≡ last x rest
closed_ends x rest closed =
    let end : length (x ∷ rest) - 1 ≡ length rest = omega arith in
    let ends : Some x ≡ Some (last x rest) = closed ∙ ap (slice_get (x ∷ rest)) end ∙ slice_get-last x rest in
    cc

pub turned-self : (a : Bool) → turned a a ≡ false
turned-self false = refl
turned-self true = refl

pub turned-path : (a b c : Bool) → turned (turned a b) (turned b c) ≡ turned a c
turned-path false false c = refl
turned-path false true false = refl
turned-path false true true = refl
turned-path true false c = refl
turned-path true true false = refl
turned-path true true true = refl

pub flip : (c : Bool) → cond c (not false) false ≡ c
flip false = refl
flip true = refl

-- the ring lies east of the position, so each edge is crossed where its ends are on different sides
-- of the ray
abbrev IsWestOf : Position → List Position → Type 0
IsWestOf at ring = All (λ p. at.lng <ℤ p.lng) ring

crossings_west : (at x : Position) (rest : List Position) → IsWestOf at (x ∷ rest)
    → is_odd (crossings (edges_of_ring (x ∷ rest)) at) ≡ turned (above at x) (above at (last x rest))
unfolding last
crossings_west at x [] west = sym (turned-self (above at x))
crossings_west at x (y ∷ rest) west =
    let tail = All-tail (λ p. at.lng <ℤ p.lng) x (y ∷ rest) west in
    let here = All-head (λ p. at.lng <ℤ p.lng) x (y ∷ rest) west in
    let next = All-head (λ p. at.lng <ℤ p.lng) y rest tail in
    let crossed = crossed_west x y at here next in
    ap is_odd (sum_by-cons (λ e. cond (is_crossed e.0 e.1 at) 1 0) (x, y) (edges_of_ring (y ∷ rest)))
    ∙ turned_more false (is_crossed x y at) (crossings (edges_of_ring (y ∷ rest)) at)
    ∙ ap (λ b. turned b (is_odd (crossings (edges_of_ring (y ∷ rest)) at))) (flip (is_crossed x y at) ∙ crossed)
    ∙ ap (turned (turned (above at x) (above at y))) (crossings_west at y rest tail)
    ∙ turned-path (above at x) (above at y) (above at (last y rest))

-- ---- a ring without an edge that is touched or crossed

touches_none : (P : Position → Type 0) (at : Position) → ((x y : Position) → P x → P y → is_on x y at ≡ false)
    → (ring : List Position) → All P ring → touches (edges_of_ring ring) at ≡ false
touches_none P at off [] all = refl
touches_none P at off (x ∷ []) all = refl
touches_none P at off (x ∷ y ∷ ring) all =
    let tail = All-tail P x (y ∷ ring) all in
    let here = off x y (All-head P x (y ∷ ring) all) (All-head P y ring tail) in
    rw here (touches_none P at off (y ∷ ring) tail)

crossings_none : (P : Position → Type 0) (at : Position) → ((x y : Position) → P x → P y → is_crossed x y at ≡ false)
    → (ring : List Position) → All P ring → crossings (edges_of_ring ring) at ≡ 0
crossings_none P at uncrossed [] all = refl
crossings_none P at uncrossed (x ∷ []) all = refl
crossings_none P at uncrossed (x ∷ y ∷ ring) all =
    let tail = All-tail P x (y ∷ ring) all in
    let here = uncrossed x y (All-head P x (y ∷ ring) all) (All-head P y ring tail) in
    let rest = crossings_none P at uncrossed (y ∷ ring) tail in
    sum_by-cons (λ e. cond (is_crossed e.0 e.1 at) 1 0) (x, y) (edges_of_ring (y ∷ ring)) ∙ rw (here, rest) refl

pub below : (a b x : ℤ) → x <ℤ a → x <ℤ b → is_between a b x ≡ false
below a b x p q = grind (arith, ints)

pub beyond : (a b x : ℤ) → a <ℤ x → b <ℤ x → is_between a b x ≡ false
beyond a b x p q = grind (arith, ints)

neither_on : (a b : Bool) → ((a && false) && b) ≡ false
neither_on false b = refl
neither_on true b = refl

pub off_between : (from to at : Position) → is_between from.lng to.lng at.lng ≡ false → is_on from to at ≡ false
off_between from to at h = rw h (neither_on (is_between from.lat to.lat at.lat) _)

-- a position is on no edge of a ring, and its ray crosses an even number of them
pub record IsBarren (at : Position) (ring : List Position) : Type 0 where
  pub off : touches (edges_of_ring ring) at ≡ false
  pub even : is_odd (crossings (edges_of_ring ring) at) ≡ false

barren_west : (at : Position) (ring : List Position) → IsClosed ring → All (λ p. at.lng <ℤ p.lng) ring → IsBarren at ring
barren_west at [] closed all = record { off = refl; even = refl }
barren_west at (x ∷ rest) closed all = record {
  off = touches_none (λ p. at.lng <ℤ p.lng) at (λ a b p q. off_between a b at (below a.lng b.lng at.lng p q)) (x ∷ rest) all;
  even = crossings_west at x rest all ∙ ap (λ y. turned (above at x) (above at y)) (sym (closed_ends x rest closed)) ∙ turned-self (above at x);
}

barren_east : (at : Position) (ring : List Position) → All (λ p. p.lng <ℤ at.lng) ring → IsBarren at ring
barren_east at ring all = record {
  off = touches_none (λ p. p.lng <ℤ at.lng) at (λ a b p q. off_between a b at (beyond a.lng b.lng at.lng p q)) ring all;
  even = ap is_odd (crossings_none (λ p. p.lng <ℤ at.lng) at (λ a b p q. crossed_east a b at p q) ring all);
}

pub barren_beside : (P : Position → Type 0) (at : Position) → ((a b : Position) → P a → P b → is_between a.lat b.lat at.lat ≡ false)
    → (ring : List Position) → All P ring → IsBarren at ring
barren_beside P at beside ring all =
    let idle = λ (a b : Position) (p : P a) (q : P b). idle_beside at (record { from = a; to = b; polygon = 0 }) (beside a b p q) in
    record {
      off = touches_none P at (λ a b p q. (idle a b p q).off) ring all;
      even = ap is_odd (crossings_none P at (λ a b p q. (idle a b p q).uncrossed) ring all);
    }

-- ---- bounds

outside_cases : (a b c d x y : ℤ) → ((int_le a x && int_le x b) && (int_le c y && int_le y d)) ≡ false
    → (x <ℤ a) ⊎ ((b <ℤ x) ⊎ ((y <ℤ c) ⊎ (d <ℤ y)))
outside_cases a b c d x y h = grind (arith, ints)

inside_parts : (a b c d x y : ℤ) → ((int_le a x && int_le x b) && (int_le c y && int_le y d)) ≡ true
    → (a ≤ℤ x) × (x ≤ℤ b) × (c ≤ℤ y) × (y ≤ℤ d)
inside_parts a b c d x y h = grind (arith, ints)

parts : (bounds : BoundingBox) (p : Position) → is_within bounds p ≡ true
    → (bounds.lng.least ≤ℤ p.lng) × (p.lng ≤ℤ bounds.lng.greatest) × (bounds.lat.least ≤ℤ p.lat) × (p.lat ≤ℤ bounds.lat.greatest)
parts bounds p h = inside_parts bounds.lng.least bounds.lng.greatest bounds.lat.least bounds.lat.greatest p.lng p.lat h

barren_outside : (bounds : BoundingBox) (at : Position) (ring : List Position) → is_within bounds at ≡ false → IsBounded bounds ring → IsBarren at ring
barren_outside bounds at ring outside b =
    elim (outside_cases bounds.lng.least bounds.lng.greatest bounds.lat.least bounds.lat.greatest at.lng at.lat outside) [
      | inl west ↦ barren_west at ring b.linear.closed (All-weaker _ (λ p. at.lng <ℤ p.lng) (λ (p : Position) (h : is_within bounds p ≡ true). omega (arith, ints, (parts bounds p h).0)) ring b.within)
      | inr rest ↦ elim rest [
        | inl east ↦ barren_east at ring (All-weaker _ (λ p. p.lng <ℤ at.lng) (λ (p : Position) (h : is_within bounds p ≡ true). omega (arith, ints, (parts bounds p h).1)) ring b.within)
        | inr more ↦ elim more [
          | inl south ↦
              barren_beside (λ p. at.lat <ℤ p.lat) at (λ p q r s. below p.lat q.lat at.lat r s) ring
              (All-weaker _ (λ p. at.lat <ℤ p.lat) (λ (p : Position) (h : is_within bounds p ≡ true). omega (arith, ints, (parts bounds p h).2)) ring b.within)
          | inr north ↦
              barren_beside (λ p. p.lat <ℤ at.lat) at (λ p q r s. beyond p.lat q.lat at.lat r s) ring
              (All-weaker _ (λ p. p.lat <ℤ at.lat) (λ (p : Position) (h : is_within bounds p ≡ true). omega (arith, ints, (parts bounds p h).3)) ring b.within)
        ]
      ]
    ]

barren_polygon : (bounds : BoundingBox) (at : Position) (rings : List (List Position)) → is_within bounds at ≡ false → All (IsBounded bounds) rings
    → (touches (edges rings) at ≡ false) × (is_odd (crossings (edges rings) at) ≡ false)
barren_polygon bounds at [] outside all = (refl, refl)
barren_polygon bounds at (ring ∷ rings) outside all =
    let here = barren_outside bounds at ring outside (All-head (IsBounded bounds) ring rings all) in
    let rest = barren_polygon bounds at rings outside (All-tail (IsBounded bounds) ring rings all) in (
      list_any-append _ (edges_of_ring ring) (edges rings) ∙ rw (here.off, rest.0) refl,
      ap is_odd (sum_by-append _ (edges_of_ring ring) (edges rings))
          ∙ is_odd-add (crossings (edges_of_ring ring) at) (crossings (edges rings) at)
          ∙ rw (here.even, rest.1) refl,
    )

pub holds_outside : (bounds : BoundingBox) (at : Position) (polygons : List (List (List Position))) → is_within bounds at ≡ false → AreBounded bounds polygons
    → area_holds polygons at ≡ false
unfolding holds
holds_outside bounds at [] outside all = refl
holds_outside bounds at (rings ∷ polygons) outside all =
    let here = barren_polygon bounds at rings outside (All-head (All (IsBounded bounds)) rings polygons all) in
    let rest = holds_outside bounds at polygons outside (All-tail (All (IsBounded bounds)) rings polygons all) in
    rw (here.0, here.1) rest
