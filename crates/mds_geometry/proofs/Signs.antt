-- On which side of an edge a position lies that is west or east of both its ends.
use Rattle.std.proofs.Common.{arith, inl, inr, ◌≡◌, refl, ℕ, suc, zero, ◌*◌, ◌<◌, Bool, true, false, ◌&&◌, ◌||◌, ℤ, pos, ◌-ℤ◌, ◌*ℤ◌}
use Rattle.std.specs.Prelude.{◌≤ℤ◌, ◌<ℤ◌, int_le, int_lt}
use Rattle.std.proofs.Math.IntN.{negsuc, *ℤ-zero, *ℤ-negsuc, pos-*ℤ-pos, *ℤ_comm}
use Rattle.std.proofs.lemmas.Bool.{cases_Bool}
use Rattle.std.proofs.lemmas.Int.{ints}
use Rattle.mds_geometry.specs.declared.position.Position.{Position}
use Rattle.mds_geometry.specs.Inside.{turn, is_crossed}
use Rattle.mds_geometry.proofs.Seen.{turned}

-- ---- signs of products

positive : (m n : ℕ) → 0 < m → 0 < n → 0 < m * n
positive m n p q = grind arith

product-pos : (u p : ℤ) → pos 0 <ℤ u → pos 0 <ℤ p → pos 0 <ℤ (u *ℤ p)
product-pos (pos m) (pos n) a b =
    let both : 0 < m * n = positive m n (omega (arith, ints)) (omega (arith, ints)) in
    rw (pos-*ℤ-pos m n) (omega (arith, ints))
product-pos (pos m) (negsuc n) a b = absurd (omega (arith, ints))
product-pos (negsuc m) p a b = absurd (omega (arith, ints))

product-not_pos : (u q : ℤ) → pos 0 <ℤ u → q ≤ℤ pos 0 → (u *ℤ q) ≤ℤ pos 0
product-not_pos u (pos zero) a b = rw (*ℤ-zero u) (omega (arith, ints))
product-not_pos u (pos (suc n)) a b = absurd (omega (arith, ints))
product-not_pos u (negsuc n) a b =
    let below = product-pos u (pos (suc n)) a (omega (arith, ints)) in
    rw (*ℤ-negsuc u n) (omega (arith, ints))

negative-pos : (u p : ℤ) → u <ℤ pos 0 → pos 0 <ℤ p → (u *ℤ p) <ℤ pos 0
negative-pos (pos m) p a b = absurd (omega (arith, ints))
negative-pos (negsuc m) p a b =
    let below = product-pos p (pos (suc m)) b (omega (arith, ints)) in
    rw (*ℤ_comm (negsuc m) p, *ℤ-negsuc p m) (omega (arith, ints))

negative-not_pos : (u q : ℤ) → u <ℤ pos 0 → q ≤ℤ pos 0 → pos 0 ≤ℤ (u *ℤ q)
negative-not_pos (pos m) q a b = absurd (omega (arith, ints))
negative-not_pos (negsuc m) q a b =
    let below = product-not_pos (pos (suc m)) q (omega (arith, ints)) b in
    let other = product-not_pos (pos (suc m)) q (omega (arith, ints)) b in
    rw (*ℤ_comm (negsuc m) q, *ℤ-negsuc q m) (rw (*ℤ_comm q (pos (suc m))) (omega (arith, ints)))

-- ---- where a position lies, by the sides of an edge's ends

abbrev pub above : Position → Position → Bool
above at p = int_lt at.lat p.lat

west-rising : (from to at : Position) → at.lng <ℤ from.lng → at.lng <ℤ to.lng → from.lat ≤ℤ at.lat → at.lat <ℤ to.lat → pos 0 <ℤ turn from to at
west-rising from to at u v q p =
    let left = product-pos (from.lng -ℤ at.lng) (to.lat -ℤ at.lat) (omega (arith, ints)) (omega (arith, ints)) in
    let right = product-not_pos (to.lng -ℤ at.lng) (from.lat -ℤ at.lat) (omega (arith, ints)) (omega (arith, ints)) in
    omega (arith, ints)

west-falling : (from to at : Position) → at.lng <ℤ from.lng → at.lng <ℤ to.lng → to.lat ≤ℤ at.lat → at.lat <ℤ from.lat → turn from to at <ℤ pos 0
west-falling from to at u v p q =
    let left = product-not_pos (from.lng -ℤ at.lng) (to.lat -ℤ at.lat) (omega (arith, ints)) (omega (arith, ints)) in
    let right = product-pos (to.lng -ℤ at.lng) (from.lat -ℤ at.lat) (omega (arith, ints)) (omega (arith, ints)) in
    omega (arith, ints)

east-rising : (from to at : Position) → from.lng <ℤ at.lng → to.lng <ℤ at.lng → from.lat ≤ℤ at.lat → at.lat <ℤ to.lat → turn from to at <ℤ pos 0
east-rising from to at u v q p =
    let left = negative-pos (from.lng -ℤ at.lng) (to.lat -ℤ at.lat) (omega (arith, ints)) (omega (arith, ints)) in
    let right = negative-not_pos (to.lng -ℤ at.lng) (from.lat -ℤ at.lat) (omega (arith, ints)) (omega (arith, ints)) in
    omega (arith, ints)

east-falling : (from to at : Position) → from.lng <ℤ at.lng → to.lng <ℤ at.lng → to.lat ≤ℤ at.lat → at.lat <ℤ from.lat → pos 0 <ℤ turn from to at
east-falling from to at u v p q =
    let left = negative-not_pos (from.lng -ℤ at.lng) (to.lat -ℤ at.lat) (omega (arith, ints)) (omega (arith, ints)) in
    let right = negative-pos (to.lng -ℤ at.lng) (from.lat -ℤ at.lat) (omega (arith, ints)) (omega (arith, ints)) in
    omega (arith, ints)

int_le_true : (a b : ℤ) → a ≤ℤ b → int_le a b ≡ true
int_le_true a b h = grind (arith, ints)

int_lt_true : (a b : ℤ) → a <ℤ b → int_lt a b ≡ true
int_lt_true a b h = grind (arith, ints)

int_le_false : (a b : ℤ) → b <ℤ a → int_le a b ≡ false
int_le_false a b h = grind (arith, ints)

int_lt_false : (a b : ℤ) → b ≤ℤ a → int_lt a b ≡ false
int_lt_false a b h = grind (arith, ints)

is_above : (at p : Position) → above at p ≡ true → at.lat <ℤ p.lat
is_above at p h = grind (arith, ints)

isnt_above : (at p : Position) → above at p ≡ false → p.lat ≤ℤ at.lat
isnt_above at p h = grind (arith, ints)

neither : (a b x y : Bool) → (((a && false) && x) || ((b && false) && y)) ≡ false
neither false false x y = refl
neither false true x y = refl
neither true false x y = refl
neither true true x y = refl

-- an edge east of a position is crossed where its ends are on different sides of the ray
pub crossed_west : (from to at : Position) → at.lng <ℤ from.lng → at.lng <ℤ to.lng → is_crossed from to at ≡ turned (above at from) (above at to)
crossed_west from to at u v =
    elim (cases_Bool (above at from)) [
      | inl high ↦ elim (cases_Bool (above at to)) [
        | inl also ↦
            let a = int_le_false from.lat at.lat (is_above at from high) in
            let b = int_le_false to.lat at.lat (is_above at to also) in
            rw (high, also, a, b) refl
        | inr low ↦
            let a = int_le_false from.lat at.lat (is_above at from high) in
            let b = int_le_true to.lat at.lat (isnt_above at to low) in
            let t = int_lt_true (turn from to at) (pos 0) (west-falling from to at u v (isnt_above at to low) (is_above at from high)) in
            rw (high, low, a, b, t) refl
      ]
      | inr low ↦ elim (cases_Bool (above at to)) [
        | inl high ↦
            let a = int_le_true from.lat at.lat (isnt_above at from low) in
            let t = int_lt_true (pos 0) (turn from to at) (west-rising from to at u v (isnt_above at from low) (is_above at to high)) in
            rw (low, high, a, t) refl
        | inr also ↦ rw (low, also) (neither (int_le from.lat at.lat) (int_le to.lat at.lat) _ _)
      ]
    ]

<ℤ_≤ℤ : {a b : ℤ} → a <ℤ b → a ≤ℤ b
<ℤ_≤ℤ h = omega (arith, ints)

and_false : (b : Bool) → (b && false) ≡ false
and_false false = refl
and_false true = refl

or_none : (b : Bool) → ((b && false) || false) ≡ false
or_none false = refl
or_none true = refl

-- an edge west of a position isn't crossed
pub crossed_east : (from to at : Position) → from.lng <ℤ at.lng → to.lng <ℤ at.lng → is_crossed from to at ≡ false
crossed_east from to at u v =
    elim (cases_Bool (above at from)) [
      | inl high ↦ elim (cases_Bool (above at to)) [
        | inl also ↦
            let a = int_le_false from.lat at.lat (is_above at from high) in
            let b = int_le_false to.lat at.lat (is_above at to also) in
            rw (a, b) refl
        | inr low ↦
            let a = int_le_false from.lat at.lat (is_above at from high) in
            let t = int_lt_false (turn from to at) (pos 0) (<ℤ_≤ℤ (east-falling from to at u v (isnt_above at to low) (is_above at from high))) in
            rw (a, t) (and_false _)
      ]
      | inr low ↦ elim (cases_Bool (above at to)) [
        | inl high ↦
            let b = int_le_false to.lat at.lat (is_above at to high) in
            let t = int_lt_false (pos 0) (turn from to at) (<ℤ_≤ℤ (east-rising from to at u v (isnt_above at from low) (is_above at to high))) in
            rw (b, t) (or_none _)
        | inr also ↦ rw (low, also) (neither (int_le from.lat at.lat) (int_le to.lat at.lat) _ _)
      ]
    ]
