-- The number of strips that edges reach, by how far they extend.
use Rattle.std.proofs.Common.{arith, inl, inr, refl, ◌≡◌, ℕ, ◌+◌, ◌-◌, ◌*◌, ◌/◌, ◌^◌, ◌<◌, ◌≤◌, List, [], ◌∷◌, length}
use Rattle.std.specs.Int.{abs_diff}
use Rattle.std.specs.List.{sum_by}
use Rattle.std.proofs.Math.Nat.{div-mul-le_self, lt-div-mul-add}
use Rattle.std.proofs.lemmas.Bool.{cases_lt}
use Rattle.std.proofs.lemmas.Bool.Decides.{nat_tests}
use Rattle.std.proofs.lemmas.List.Sums.{sum_by-cons}
use Rattle.std.proofs.lemmas.Nat.{le-div, pow_pos}
use Rattle.mds_geometry.specs.Strips.{at_most, reach, row_of, span}
use Rattle.mds_geometry.specs.declared.scale.Scale.{Scale}
use Rattle.mds_geometry.specs.declared.strip.Edge.{Edge}

-- moving to the nearest strip makes no distance greater
clamped : (last f x y n : ℕ) → abs_diff x y ≤ n → abs_diff (at_most last (x - f)) (at_most last (y - f)) ≤ n
clamped last f x y n near = grind (arith, nat_tests)

rises : (d a b : ℕ) → 0 < d → a ≤ b → a / d ≤ b / d
rises d a b some le = le-div (a / d) b d some (omega (arith, div-mul-le_self a d))

-- rows in strips `k + 1` apart are at least `k` heights of a strip apart
heights : (d a b k : ℕ) → 0 < d → a / d ≡ b / d + 1 + k → k ≤ (a - b) / d
heights d a b k some apart =
    let low = div-mul-le_self a d in
    let high = lt-div-mul-add {a = b} {b = d} some in
    let more : a / d * d ≡ b / d * d + d + k * d = rw apart (omega arith) in
    le-div k (a - b) d some (omega (arith, low, high, more))

apart : (d a b : ℕ) → 0 < d → a / d - b / d ≤ (a - b) / d + 1
apart d a b some =
    elim (cases_lt (b / d) (a / d)) [
      | inl lt ↦ let more = heights d a b (a / d - b / d - 1) some (omega arith) in omega arith
      | inr le ↦ omega arith
    ]

near : (d a b : ℕ) → 0 < d → abs_diff (a / d) (b / d) ≤ abs_diff a b / d + 1
near d a b some =
    elim (cases_lt a b) [
      | inl lt ↦
          let up = apart d b a some in
          let down = rises d a b some (omega arith) in
          let same : abs_diff a b ≡ b - a = omega arith in
          rw same (omega arith)
      | inr le ↦
          let up = apart d a b some in
          let down = rises d b a some le in
          let same : abs_diff a b ≡ a - b = omega arith in
          rw same (omega arith)
    ]

-- the heights of two edges, added
together : (d a b : ℕ) → 0 < d → a / d + b / d ≤ (a + b) / d
together d a b some =
    le-div (a / d + b / d) (a + b) d some (omega (arith, div-mul-le_self a d, div-mul-le_self b d))

span_of : (scale : Scale) (e : Edge) → span scale e ≤ reach e / 2 ^ scale.shift + 2
span_of scale e =
    let n = near (2 ^ scale.shift) (row_of e.from.lat) (row_of e.to.lat) (pow_pos scale.shift) in
    let c = clamped scale.last scale.first (row_of e.from.lat / 2 ^ scale.shift) (row_of e.to.lat / 2 ^ scale.shift) _ n in
    omega (arith, c)

-- an edge has at most two entries more than the heights of a strip that it extends over
pub spans : (scale : Scale) (es : List Edge) → sum_by (span scale) es ≤ sum_by reach es / 2 ^ scale.shift + 2 * length es
spans scale [] = omega arith
spans scale (e ∷ es) =
    let here = span_of scale e in
    let rest = spans scale es in
    let all = together (2 ^ scale.shift) (reach e) (sum_by reach es) (pow_pos scale.shift) in
    rw (sum_by-cons (span scale) e es, sum_by-cons reach e es) (omega (arith, here, rest, all))

pub few_places : (scale : Scale) (es : List Edge) (far shift : ℕ) → scale.shift ≡ shift → sum_by reach es ≡ far
    → far / 2 ^ shift ≤ 2 * length es → sum_by (span scale) es ≤ 4 * length es
few_places scale es far shift is sum spare =
    let all = spans scale es in
    let same : sum_by reach es / 2 ^ scale.shift ≡ far / 2 ^ shift = rw (is, sum) refl in
    omega (arith, all, same, spare)
