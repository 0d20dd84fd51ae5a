use Rattle.std.proofs.Common.{arith, rules, ◌≡◌, ◌∙◌, ◌≤◌, ℤ, ◌-ℤ◌, ◌*ℤ◌, FitsSigned, to_z, of_z, w64, unsigned_abs}
use Rattle.std.specs.Int.{w128}
use Rattle.std.proofs.lemmas.Int.{ints, to_z-of_z, fits_signed_from_abs}
use Rattle.mds_geometry.proofs.edge.turn.Goals as goal

-- a product of two numbers that fit is that of their values
product_is :
    (a b x y p : ℤ) → FitsSigned w64 a → FitsSigned w64 b → a ≡ x → b ≡ y
    → p ≡ to_z w64 (of_z w64 a) *ℤ to_z w64 (of_z w64 b) → p ≡ x *ℤ y
product_is a b x y p f g ax by e =
    e ∙ (rw (to_z-of_z w64 a f, to_z-of_z w64 b g) (cc))

-- the difference of two bounded products fits
difference_is :
    (l r x y : ℤ) → unsigned_abs l ≤ 12960000000000000000 → unsigned_abs r ≤ 12960000000000000000 → l ≡ x → r ≡ y
    → to_z w128 (of_z w128 (to_z w128 (of_z w128 l) -ℤ to_z w128 (of_z w128 r))) ≡ x -ℤ y
difference_is l r x y f g lx ry = omega (arith, ints)

pub overflow_sub-result : goal.overflow_sub-result
overflow_sub-result c =
    fits_signed_from_abs _ _ (omega (arith, ints, c.product-left.ensures.size, c.product-right.ensures.size))

pub returns : goal.returns
returns c =
    let f : FitsSigned w64 c.difference.result = search rules in
    let g : FitsSigned w64 c.difference-2.result = search rules in
    let h : FitsSigned w64 c.difference-3.result = search rules in
    let k : FitsSigned w64 c.difference-4.result = search rules in
    let left = product_is _ _ _ _ _ f g c.difference.ensures.value c.difference-2.ensures.value c.product-left.ensures.value in
    let right = product_is _ _ _ _ _ h k c.difference-3.ensures.value c.difference-4.ensures.value c.product-right.ensures.value in
    difference_is _ _ _ _ c.product-left.ensures.size c.product-right.ensures.size left right
