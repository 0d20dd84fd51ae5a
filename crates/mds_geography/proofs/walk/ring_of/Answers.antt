use Rattle.std.proofs.Common.{arith, ℕ, ◌≡◌, sym, ◌∙◌, refl, subst, ◌≤◌, ◌<◌, ◌-◌, true, false, List, [], ◌∷◌, Option, Some, Ok, length, inl, inr, ℤ}
use Rattle.std.specs.Prelude.{slice_get, nat_lt}
use Rattle.std.specs.Ordering.{int_eq}
use Rattle.std.proofs.lemmas.Bool.{cases_Bool}
use Rattle.std.proofs.lemmas.Bool.Decides.{nat_tests}
use Rattle.std.proofs.lemmas.Int.{ints}
use Rattle.mds_geometry.specs.Ring.{IsClosed}
use Rattle.mds_geometry.specs.declared.position.Position.{Position}
use Rattle.mds_geography.specs.Reading.{ends_meet, ring_from}
use Rattle.mds_geography.proofs.walk.ring_of.Goals as goal

same_number : (z : ℤ) → int_eq z z ≡ true
same_number z = grind (arith, ints)

-- a position equals itself
meets_itself : (p : Position) (q : Option Position) → Some p ≡ q → ends_meet (Some p) q ≡ true
meets_itself p q same = subst (λ o. ends_meet (Some p) o ≡ true) same (rw (same_number p.lng, same_number p.lat) refl)

not_few : (n : ℕ) → (n < 4 → ⊥) → nat_lt n 4 ≡ false
not_few n h = grind (arith, nat_tests)

-- what is neither short nor open is a ring
ring_is : (ps : List Position) → (length ps < 4 → ⊥) → ((4 ≤ length ps) × (IsClosed ps → ⊥) → ⊥) → ring_from ps ≡ Ok ps
ring_is [] short differs = absurd (short (omega arith))
ring_is (p ∷ ps) short differs =
    let long = not_few (length (p ∷ ps)) short in
    elim (cases_Bool (ends_meet (Some p) (slice_get (p ∷ ps) (length (p ∷ ps) - 1)))) [
      | inl met ↦ rw (long, met) refl
      | inr apart ↦ absurd (differs (omega (arith, short), λ closed. (let both : true ≡ false = sym (meets_itself p _ closed) ∙ apart in cc)))
    ]

pub returns-clause-value : goal.returns-clause-value
returns-clause-value c =
    let made = ring_is c.in_ok-positions.positions.items (λ few. (let e = c.in_ok-ring.ensures.short.1 few in cc)) (λ apart. (let e = c.in_ok-ring.ensures.open.1 apart in cc)) in
    rw (c.in_ok-positions.ensures.value, made, c.in_ok-ring.ensures.ring) refl
