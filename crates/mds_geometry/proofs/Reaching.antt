-- An edge that doesn't reach the strip of a position is neither touched nor crossed there.
use Rattle.std.proofs.Common.{arith, ◌≡◌, sym, ◌∙◌, refl, ℕ, ◌/◌, ◌^◌, ◌≤◌, true, false, ◌⊎◌, inl, inr, ℤ}
use Rattle.std.specs.Prelude.{◌≤ℤ◌}
use Rattle.std.proofs.Math.Nat.{div-mul-le_self}
use Rattle.std.proofs.lemmas.Bool.{cases_Bool}
use Rattle.std.proofs.lemmas.Bool.Decides.{nat_tests}
use Rattle.std.proofs.lemmas.Int.{ints}
use Rattle.std.proofs.lemmas.Nat.{le-div, pow_pos}
use Rattle.mds_geometry.specs.declared.position.Position.{Position}
use Rattle.mds_geometry.specs.declared.scale.Scale.{Scale}
use Rattle.mds_geometry.specs.declared.strip.Edge.{Edge}
use Rattle.mds_geometry.specs.Inside.{is_between, rises_past}
use Rattle.mds_geometry.specs.Strips.{row_of, at_most, strip_of, lies_between, reaches}
use Rattle.mds_geometry.proofs.Idle.{IsIdle}

-- ---- a latitude further north is in no strip further south

row_rises : (a b : ℤ) → a ≤ℤ b → row_of a ≤ row_of b
row_rises a b le = grind (arith, ints)

shift_rises : (a b k : ℕ) → a ≤ b → a / 2 ^ k ≤ b / 2 ^ k
shift_rises a b k le = le-div (a / 2 ^ k) b (2 ^ k) (pow_pos k) (omega (arith, div-mul-le_self a (2 ^ k)))

at_most_rises : (last a b : ℕ) → a ≤ b → at_most last a ≤ at_most last b
at_most_rises last a b le = grind (arith, nat_tests)

pub strip_rises : (scale : Scale) (a b : ℤ) → a ≤ℤ b → strip_of scale a ≤ strip_of scale b
strip_rises scale a b le =
    let rows = shift_rises (row_of a) (row_of b) scale.shift (row_rises a b le) in
    at_most_rises scale.last _ _ (omega (arith, rows))

-- ---- an edge whose latitudes don't enclose that of a position

between_cases : (a b x : ℤ) → is_between a b x ≡ true → ((a ≤ℤ x) × (x ≤ℤ b)) ⊎ ((b ≤ℤ x) × (x ≤ℤ a))
between_cases a b x h = grind (arith, ints)

pub lies_up : (a b n : ℕ) → a ≤ n → n ≤ b → lies_between a b n ≡ true
lies_up a b n low high = grind (arith, nat_tests)

pub lies_down : (a b n : ℕ) → b ≤ n → n ≤ a → lies_between a b n ≡ true
lies_down a b n low high = grind (arith, nat_tests)

between_strips : (scale : Scale) (a b x : ℤ) → is_between a b x ≡ true → lies_between (strip_of scale a) (strip_of scale b) (strip_of scale x) ≡ true
between_strips scale a b x h =
    elim (between_cases a b x h) [
      | inl up ↦ lies_up _ _ _ (strip_rises scale a x up.0) (strip_rises scale x b up.1)
      | inr down ↦ lies_down _ _ _ (strip_rises scale b x down.0) (strip_rises scale x a down.1)
    ]

rising_is_between : (from to at : Position) → is_between from.lat to.lat at.lat ≡ false → rises_past from to at ≡ false
rising_is_between from to at off = grind (arith, ints)

falling_is_between : (from to at : Position) → is_between from.lat to.lat at.lat ≡ false → rises_past to from at ≡ false
falling_is_between from to at off = grind (arith, ints)

pub idle_beside : (at : Position) (e : Edge) → is_between e.from.lat e.to.lat at.lat ≡ false → IsIdle at e
idle_beside at e off =
    let rising = rising_is_between e.from e.to at off in
    let falling = falling_is_between e.from e.to at off in
    record { off = rw off refl; uncrossed = rw (rising, falling) refl }

pub idle_unreached : (scale : Scale) (at : Position) (e : Edge) → reaches scale (strip_of scale at.lat) e ≡ false → IsIdle at e
idle_unreached scale at e unreached =
    elim (cases_Bool (is_between e.from.lat e.to.lat at.lat)) [
      | inl between ↦
          let both : true ≡ false = sym (between_strips scale e.from.lat e.to.lat at.lat between) ∙ unreached in
          absurd (cc)
      | inr off ↦ idle_beside at e off
    ]
