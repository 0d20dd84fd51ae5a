-- Lists of desks, by index.
use Rattle.std.proofs.Common.{◌≡◌, ℕ, zero, suc, ◌<◌, List, [], ◌∷◌, length, get_or, Some, None, ◌⊎◌, inl, inr, refl, ap, ◌∙◌, arith}
use Rattle.std.specs.Prelude.{slice_get, slice_set}
use Rattle.std.proofs.lemmas.Option.{slice_get_within, slice_get-get_or}

pub the_same : {X : Type 0} (x y : X) → Some x ≡ Some y → x ≡ y
the_same x y e = cc

pub none_some : {X : Type 0} (x : X) → None ≡ Some x → ⊥
none_some x e = cc

-- where one list has an element, another of the same length has one
pub other_at : {X : Type 0} (xs ys : List X) (place : ℕ) (y : X) → length ys ≡ length xs → slice_get ys place ≡ Some y
    → (x : X) × (slice_get xs place ≡ Some x)
other_at xs ys place y long is =
    let within : place < length xs = omega (arith, long, slice_get_within ys place y is) in
    (get_or xs place y, slice_get-get_or xs place y within)

pub set_same : {X : Type 0} (xs : List X) (place : ℕ) (x v : X) → slice_get xs place ≡ Some x → slice_get (slice_set xs place v) place ≡ Some v
set_same [] place x v is = absurd (none_some x is)
set_same (y ∷ xs) zero x v is = refl
set_same (y ∷ xs) (suc place) x v is = set_same xs place x v is

pub set_other : {X : Type 0} (xs : List X) (place other : ℕ) (v : X) → (other ≡ place → ⊥) → slice_get (slice_set xs place v) other ≡ slice_get xs other
set_other [] place other v apart = refl
set_other (y ∷ xs) zero zero v apart = absurd (apart refl)
set_other (y ∷ xs) zero (suc other) v apart = refl
set_other (y ∷ xs) (suc place) zero v apart = refl
set_other (y ∷ xs) (suc place) (suc other) v apart = set_other xs place other v (λ e. apart (ap (λ (n : ℕ). suc n) e))

pub set_long : {X : Type 0} (xs : List X) (place : ℕ) (v : X) → length (slice_set xs place v) ≡ length xs
set_long [] place v = refl
set_long (y ∷ xs) zero v = refl
set_long (y ∷ xs) (suc place) v = ap (λ (n : ℕ). suc n) (set_long xs place v)

-- an element after a write is the one written, or it stood there
pub at_set : {X : Type 0} (xs : List X) (place other : ℕ) (v y : X) → slice_get (slice_set xs place v) other ≡ Some y
    → ((other ≡ place) × (v ≡ y)) ⊎ ((other ≡ place → ⊥) × (slice_get xs other ≡ Some y))
at_set [] place other v y is = absurd (none_some y is)
at_set (x ∷ xs) zero zero v y is = inl (refl, the_same v y is)
at_set (x ∷ xs) zero (suc other) v y is = inr (λ e. omega (arith, e), is)
at_set (x ∷ xs) (suc place) zero v y is = inr (λ e. omega (arith, e), is)
at_set (x ∷ xs) (suc place) (suc other) v y is =
    elim (at_set xs place other v y is) [
      | inl here ↦ inl (ap (λ (n : ℕ). suc n) here.0, here.1)
      | inr there ↦ inr (λ e. there.0 (omega (arith, e)), there.1)
    ]

abbrev pub paired : {X Y : Type 0} → X → Y → X × Y
paired a x = (a, x)

pub both : {X Y : Type 0} (a b : X) (x y : Y) → a ≡ b → x ≡ y → paired a x ≡ paired b y
both {X} {Y} a b x y e f = ap (λ (z : X). paired z x) e ∙ ap (λ (z : Y). paired b z) f
