-- The edges of a ring, block by block.
use Rattle.std.proofs.Common.{arith, subst, ◌≡◌, sym, ◌∙◌, ap, refl, ℕ, suc, zero, ◌+◌, ℤ, Bool, true, false, not, ◌||◌, List, [], ◌∷◌, ◌++◌, take, drop, drop-drop}
use Rattle.std.proofs.lemmas.Int.{ints}
use Rattle.std.proofs.lemmas.List.Sums.{sum_by-append}
use Rattle.std.proofs.lemmas.List.Folds.{list_any-append}
use mathlib.Core.Bool.{beq}
use Rattle.mds_geometry.specs.declared.position.Position.{Position}
use Rattle.mds_geometry.specs.declared.band.Band.{Band}
use Rattle.mds_geometry.specs.Bounds.{lies_in, AreIn, AreBanded}
use Rattle.mds_geometry.specs.Inside.{edges_of_ring, is_between, touches, crossings, is_odd}
use Rattle.mds_geometry.proofs.Outside.{IsBarren, barren_beside}
use Rattle.mds_geometry.proofs.Seen.{turned, turned-turned, is_odd-add}

no_edges : (n : ℕ) → edges_of_ring (drop n []) ≡ []
no_edges zero = refl
no_edges (suc n) = refl

-- a ring's edges are those of its first block and those of the others
edges_of_ring-split : (size : ℕ) (ring : List Position) → edges_of_ring ring ≡ edges_of_ring (take (suc size) ring) ++ edges_of_ring (drop size ring)
edges_of_ring-split zero [] = refl
edges_of_ring-split zero (x ∷ ring) = refl
edges_of_ring-split (suc size) [] = refl
edges_of_ring-split (suc size) (x ∷ []) = sym (no_edges size)
edges_of_ring-split (suc size) (x ∷ y ∷ ring) = ap (λ es. (x, y) ∷ es) (edges_of_ring-split size (y ∷ ring))

beside_band : (band : Band) (a b x : ℤ) → lies_in band a ≡ true → lies_in band b ≡ true → lies_in band x ≡ false → is_between a b x ≡ false
beside_band band a b x p q r = grind (arith, ints)

-- the edges of a block whose band doesn't hold the latitude don't matter
pub barren_block : (band : Band) (at : Position) (block : List Position) → AreIn band block → lies_in band at.lat ≡ false → IsBarren at block
barren_block band at block all off =
    barren_beside (λ p. lies_in band p.lat ≡ true) at (λ p q r s. beside_band band p.lat q.lat at.lat r s off) block all

-- a ring's edges against those that are left, and the parity so far
pub record IsSeenFrom (ring rest : List Position) (at : Position) (odd : Bool) : Type 0 where
  pub touched : touches (edges_of_ring rest) at ≡ touches (edges_of_ring ring) at
  pub parity : turned odd (is_odd (crossings (edges_of_ring rest) at)) ≡ is_odd (crossings (edges_of_ring ring) at)

touches-split : (size : ℕ) (ring : List Position) (at : Position)
    → touches (edges_of_ring ring) at ≡ (touches (edges_of_ring (take (suc size) ring)) at || touches (edges_of_ring (drop size ring)) at)
touches-split size ring at = ap (λ es. touches es at) (edges_of_ring-split size ring) ∙ list_any-append _ (edges_of_ring (take (suc size) ring)) _

parity-split : (size : ℕ) (ring : List Position) (at : Position)
    → is_odd (crossings (edges_of_ring ring) at) ≡ turned (is_odd (crossings (edges_of_ring (take (suc size) ring)) at)) (is_odd (crossings (edges_of_ring (drop size ring)) at))
parity-split size ring at =
    ap (λ es. is_odd (crossings es at)) (edges_of_ring-split size ring)
    ∙ ap is_odd (sum_by-append _ (edges_of_ring (take (suc size) ring)) _)
    ∙ is_odd-add _ _

-- a position on an edge of a block is on an edge of the ring
pub seen_touched : (ring rest : List Position) (at : Position) (odd : Bool) (size : ℕ) → IsSeenFrom ring rest at odd
    → touches (edges_of_ring (take (suc size) rest)) at ≡ true → touches (edges_of_ring ring) at ≡ true
seen_touched ring rest at odd size seen on = sym seen.touched ∙ touches-split size rest at ∙ rw on refl

pub seen_block : (ring rest : List Position) (at : Position) (odd crosses : Bool) (size : ℕ) → IsSeenFrom ring rest at odd
    → touches (edges_of_ring (take (suc size) rest)) at ≡ false → crosses ≡ is_odd (crossings (edges_of_ring (take (suc size) rest)) at)
    → IsSeenFrom ring (drop size rest) at (not (beq odd crosses))
seen_block ring rest at odd crosses size seen off is = record {
  touched =
      let t : touches (edges_of_ring rest) at ≡ touches (edges_of_ring (drop size rest)) at = touches-split size rest at ∙ rw off refl in
      sym t ∙ seen.touched;
  parity =
      rw is (sym (turned-turned odd _ _)) ∙ ap (turned odd) (sym (parity-split size rest at)) ∙ seen.parity;
}

same_odd : (odd : Bool) → not (beq odd false) ≡ odd
same_odd false = refl
same_odd true = refl

pub seen_barren : (ring rest : List Position) (at : Position) (odd : Bool) (size : ℕ) → IsSeenFrom ring rest at odd
    → IsBarren at (take (suc size) rest) → IsSeenFrom ring (drop size rest) at odd
seen_barren ring rest at odd size seen barren =
    subst (IsSeenFrom ring (drop size rest) at) (same_odd odd) (seen_block ring rest at odd false size seen barren.off (sym barren.even))

-- the bands after the first are those of the other blocks
others_banded : (size : ℕ) (bands : List Band) (positions : List Position) → AreBanded size bands positions → AreBanded size (drop 1 bands) (drop size positions)
others_banded size [] positions banded = tt
others_banded size (band ∷ bands) positions banded = banded.1

pub banded_more : (size i : ℕ) (bands : List Band) (positions : List Position) → AreBanded size (drop i bands) positions → AreBanded size (drop (i + 1) bands) (drop size positions)
banded_more size i bands positions banded =
    subst (λ bs. AreBanded size bs (drop size positions)) (drop-drop 1 i bands) (others_banded size (drop i bands) positions banded)
