-- The cells that an edge covers, between its least and its greatest row and column.
use Rattle.std.proofs.Common.{arith, inl, inr, ◌≡◌, ◌∙◌, ap, refl, ℕ, ◌+◌, ◌*◌, ◌≤◌, ◌<◌, Bool, true, false, ◌&&◌, sym, List, length, get_or, set, take}
use Rattle.std.specs.Prelude.{nat_le}
use Rattle.std.specs.List.{list_any}
use Rattle.std.proofs.lemmas.Bool.{cases_Bool, cases_lt}
use Rattle.std.proofs.lemmas.Bool.Decides.{nat_tests}
use Rattle.std.proofs.lemmas.List.{get_or-set_same, get_or-set_other}
use Rattle.std.proofs.lemmas.List.Folds.{list_any_more}
use Rattle.std.proofs.Math.Nat.{eq-or-lt_of_le}
use Rattle.mds_geometry.specs.declared.scale.Scale.{Scale}
use Rattle.mds_geometry.specs.declared.strip.Edge.{Edge}
use Rattle.mds_geometry.specs.Grid.{covers, place_of}
use Rattle.mds_geometry.specs.Strips.{lies_between, strip_of}

-- a cell lies in a box of rows and columns
abbrev pub IsCovered : ℕ → ℕ → ℕ → ℕ → ℕ → ℕ → Type 0
IsCovered south north west east r c = (south ≤ r) × (r ≤ north) × (west ≤ c) × (c ≤ east)

inside : (south north west east r c : ℕ) → ((nat_le south r && nat_le r north) && (nat_le west c && nat_le c east)) ≡ true → IsCovered south north west east r c
inside south north west east r c h = grind (arith, nat_tests)

outside : (south north west east r c : ℕ) → (IsCovered south north west east r c → ⊥) → ((nat_le south r && nat_le r north) && (nat_le west c && nat_le c east)) ≡ false
outside south north west east r c none =
    elim (cases_Bool ((nat_le south r && nat_le r north) && (nat_le west c && nat_le c east))) [
      | inl within ↦ absurd (none (inside south north west east r c within))
      | inr off ↦ off
    ]

pub uncovered : (columns rows : Scale) (e : Edge) (south north west east r c : ℕ)
    → ((n : ℕ) → lies_between (strip_of rows e.from.lat) (strip_of rows e.to.lat) n ≡ (nat_le south n && nat_le n north))
    → ((n : ℕ) → lies_between (strip_of columns e.from.lng) (strip_of columns e.to.lng) n ≡ (nat_le west n && nat_le n east))
    → (IsCovered south north west east r c → ⊥) → covers columns rows r c e ≡ false
uncovered columns rows e south north west east r c lat lng none =
    ap (λ b. b && lies_between (strip_of columns e.from.lng) (strip_of columns e.to.lng) c) (lat r)
    ∙ ap (λ b. (nat_le south r && nat_le r north) && b) (lng c)
    ∙ outside south north west east r c none

-- no edge so far covered a cell, and the next one doesn't
pub none_more : (p : Edge → Bool) (es : List Edge) (i : ℕ) (e : Edge) → i < length es → e ≡ get_or es i e
    → list_any p (take i es) ≡ false → p e ≡ false → list_any p (take (i + 1) es) ≡ false
none_more p es i e within is before here =
    list_any_more p es i e within ∙ rw (before, ← is, here) refl

-- ---- one more mark, one more row

-- a cell that isn't marked wasn't marked before, and its index isn't from `first` up to `end`
abbrev pub IsSpared : List Bool → List Bool → ℕ → ℕ → Type 0
IsSpared old marks first end = (k : ℕ) → get_or marks k false ≡ false → (get_or old k false ≡ false) × ((first ≤ k) × (k < end) → ⊥)

pub spared_more : (old marks : List Bool) (first place : ℕ) → place < length marks → IsSpared old marks first place → IsSpared old (set marks place true) first (place + 1)
spared_more old marks first place within before k free =
    elim (cases_lt k place) [
      | inl lt ↦
          let b = before k (sym (get_or-set_other marks place k true false (λ e. (omega arith))) ∙ free) in
          (b.0, λ w. b.1 (w.0, lt))
      | inr le ↦ elim (eq-or-lt_of_le le) [
        | inl same ↦
            let both : true ≡ false = sym (get_or-set_same marks place true false within) ∙ ap (λ j. get_or (set marks place true) j false) same ∙ free in
            absurd (cc)
        | inr gt ↦
            let b = before k (sym (get_or-set_other marks place k true false (λ e. (omega arith))) ∙ free) in
            (b.0, λ w. (omega (arith, w.1)))
      ]
    ]

-- a cell that isn't marked wasn't marked before, and isn't in the box up to a row
abbrev pub AreSpared : List Bool → List Bool → ℕ → ℕ → ℕ → ℕ → Type 0
AreSpared old marks south end west east =
    (r c : ℕ) → get_or marks (place_of r c) false ≡ false → (get_or old (place_of r c) false ≡ false) × ((south ≤ r) × (r < end) × (west ≤ c) × (c ≤ east) → ⊥)

pub rows_more : (old marks new : List Bool) (south row west east : ℕ) → AreSpared old marks south row west east
    → ((k : ℕ) → get_or new k false ≡ false → (get_or marks k false ≡ false) × ((row * 128 + west ≤ k) × (k ≤ row * 128 + east) → ⊥))
    → AreSpared old new south (row + 1) west east
rows_more old marks new south row west east before span r c free =
    let s = span (place_of r c) free in
    let b = before r c s.0 in (
      b.0,
      λ w. (elim (cases_lt r row) [
        | inl lt ↦ b.1 (w.0, lt, w.2, w.3)
        | inr le ↦ s.1 (let top = w.1 in let west_of = w.2 in omega arith, let top = w.1 in let east_of = w.3 in omega arith)
      ]),
    )

pub edge_spared : (old marks : List Bool) (columns rows : Scale) (e : Edge) (south north west east : ℕ)
    → ((n : ℕ) → lies_between (strip_of rows e.from.lat) (strip_of rows e.to.lat) n ≡ (nat_le south n && nat_le n north))
    → ((n : ℕ) → lies_between (strip_of columns e.from.lng) (strip_of columns e.to.lng) n ≡ (nat_le west n && nat_le n east))
    → AreSpared old marks south (north + 1) west east
    → (r c : ℕ) → get_or marks (place_of r c) false ≡ false → (get_or old (place_of r c) false ≡ false) × (covers columns rows r c e ≡ false)
edge_spared old marks columns rows e south north west east lat lng spared r c free =
    let s = spared r c free in
    (s.0, uncovered columns rows e south north west east r c lat lng (λ w. s.1 (w.0, let top = w.1 in omega arith, w.2, w.3)))

-- an edge within one cell, which is marked
one_spared : (old : List Bool) (row column : ℕ) → place_of row column < length old
    → AreSpared old (set old (place_of row column) true) row (row + 1) column column
one_spared old row column within r c free =
    let place = place_of row column in
    let b = spared_more old old place place within (λ k before. (before, λ w. (let low = w.0 in let high = w.1 in omega arith))) (place_of r c) free in (
      b.0,
      λ w.
          let low = w.0 in
          let high = w.1 in
          let least = w.2 in
          let most = w.3 in
          let r_is : r ≡ row = omega arith in
          let c_is : c ≡ column = omega arith in
          b.1 (rw (r_is, c_is) (omega arith), rw (r_is, c_is) (omega arith)),
    )

alike : (a b s n : ℕ) → a ≡ s → b ≡ s → lies_between a b n ≡ (nat_le s n && nat_le n s)
alike a b s n is also = rw (is, also) (grind (arith, nat_tests))

pub cell_spared : (old : List Bool) (columns rows : Scale) (e : Edge) (row column : ℕ)
    → strip_of rows e.from.lat ≡ row → strip_of rows e.to.lat ≡ row → strip_of columns e.from.lng ≡ column → strip_of columns e.to.lng ≡ column
    → place_of row column < length old
    → (r c : ℕ) → get_or (set old (place_of row column) true) (place_of r c) false ≡ false
    → (get_or old (place_of r c) false ≡ false) × (covers columns rows r c e ≡ false)
cell_spared old columns rows e row column south north west east within =
    edge_spared old (set old (place_of row column) true) columns rows e row row column column
    (λ n. alike _ _ row n south north) (λ n. alike _ _ column n west east)
    (one_spared old row column within)
