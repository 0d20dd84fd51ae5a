-- Laws of the edges of a strip.
use Rattle.std.proofs.Common.{arith, ◌≡◌, sym, ◌∙◌, ap, refl, ℕ, ◌+◌, ◌≤◌, ◌<◌, Bool, true, false, not, cond, ◌||◌, inl, inr, List, [], ◌∷◌, ◌++◌, map}
use Rattle.std.specs.Prelude.{nat_eq}
use Rattle.std.specs.List.{filter}
use Rattle.std.proofs.Math.Nat.{eq-or-lt_of_le}
use Rattle.std.proofs.Math.Bool.{or_assoc}
use Rattle.std.proofs.lemmas.Bool.{cases_Bool}
use Rattle.std.proofs.lemmas.Bool.Decides.{nat_tests}
use Rattle.std.proofs.lemmas.List.Sums.{sum_by-cons}
use Rattle.mds_geometry.specs.declared.position.Position.{Position}
use Rattle.mds_geometry.specs.declared.strip.Edge.{Edge}
use Rattle.mds_geometry.specs.Area.{area_holds}
use Rattle.mds_geometry.specs.Inside.{edges, touches, crossings, is_odd, is_on, is_crossed, holds}
use Rattle.mds_geometry.specs.Strips.{edge_of, edges_from, any_holds}
use Rattle.mds_geometry.proofs.Seen.{turned, turned_more, turned_false}

-- the edges are in the order of their polygons' indices, which begin here
abbrev pub IsAscending : ℕ → List Edge → Type 0
IsAscending place [] = Unit {0}
IsAscending place (e ∷ es) = (place ≤ e.polygon) × IsAscending e.polygon es

pub ascending_from : (j k : ℕ) (es : List Edge) → j ≤ k → IsAscending k es → IsAscending j es
ascending_from j k [] le a = tt
ascending_from j k (e ∷ es) le a = (omega (arith, a.0), a.1)

eq_true : (a b : ℕ) → a ≡ b → nat_eq a b ≡ true
eq_true a b e = grind (arith, nat_tests)

eq_false : (a b : ℕ) → b < a → nat_eq a b ≡ false
eq_false a b lt = grind (arith, nat_tests)

-- an edge of the same polygon, and an edge of a later one
same_next : (at : Position) (k : ℕ) (odd : Bool) (e : Edge) (es : List Edge) → e.polygon ≡ k
    → any_holds at k odd (e ∷ es) ≡ (is_on e.from e.to at || any_holds at k (cond (is_crossed e.from e.to at) (not odd) odd) es)
same_next at k odd e es is = rw (eq_true e.polygon k is) refl

later_next : (at : Position) (k : ℕ) (odd : Bool) (e : Edge) (es : List Edge) → k < e.polygon
    → any_holds at k odd (e ∷ es) ≡ (odd || (is_on e.from e.to at || any_holds at e.polygon (is_crossed e.from e.to at) es))
later_next at k odd e es lt = rw (eq_false e.polygon k lt) refl

cond_self : (b : Bool) → cond b (not false) false ≡ b
cond_self false = refl
cond_self true = refl

first_next : (at : Position) (k : ℕ) (e : Edge) (es : List Edge) → k ≤ e.polygon
    → any_holds at k false (e ∷ es) ≡ (is_on e.from e.to at || any_holds at e.polygon (is_crossed e.from e.to at) es)
first_next at k e es le =
    elim (eq-or-lt_of_le le) [
      | inl is ↦ same_next at k false e es (sym is) ∙ rw (is, cond_self (is_crossed e.from e.to at)) refl
      | inr lt ↦ later_next at k false e es lt
    ]

or_false : (b : Bool) → b ≡ (b || false)
or_false false = refl
or_false true = refl

-- where only edges of later polygons are left, the result for this polygon is final
pub settled : (at : Position) (j k : ℕ) (odd : Bool) (es : List Edge) → k < j → IsAscending j es
    → any_holds at k odd es ≡ (odd || any_holds at j false es)
settled at j k odd [] lt a = or_false odd
settled at j k odd (e ∷ es) lt a =
    later_next at k odd e es (omega (arith, a.0)) ∙ ap (λ b. odd || b) (sym (first_next at j e es a.0))

-- an edge that the position is not on and its ray doesn't cross
pub record IsIdle (at : Position) (e : Edge) : Type 0 where
  pub off : is_on e.from e.to at ≡ false
  pub uncrossed : is_crossed e.from e.to at ≡ false

-- such edges may be left out
pub any_holds-filter :
    (at : Position) (p : Edge → Bool) → ((e : Edge) → p e ≡ false → IsIdle at e)
    → (k : ℕ) (odd : Bool) (es : List Edge) → IsAscending k es
    → any_holds at k odd (filter p es) ≡ any_holds at k odd es
any_holds-filter at p idle k odd [] a = refl
any_holds-filter at p idle k odd (e ∷ es) a =
    elim (cases_Bool (p e)) [
      | inl kept ↦ elim (eq-or-lt_of_le a.0) [
        | inl is ↦
            rw kept (same_next at k odd e (filter p es) (sym is)
            ∙ ap (λ b. is_on e.from e.to at || b) (any_holds-filter at p idle k (cond (is_crossed e.from e.to at) (not odd) odd) es (ascending_from k e.polygon es a.0 a.1))
            ∙ sym (same_next at k odd e es (sym is)))
        | inr lt ↦
            rw kept (later_next at k odd e (filter p es) lt
            ∙ ap (λ b. odd || (is_on e.from e.to at || b)) (any_holds-filter at p idle e.polygon (is_crossed e.from e.to at) es a.1)
            ∙ sym (later_next at k odd e es lt))
      ]
      | inr dropped ↦
          let i = idle e dropped in
          let rest = any_holds-filter at p idle k odd es (ascending_from k e.polygon es a.0 a.1) in
          elim (eq-or-lt_of_le a.0) [
            | inl is ↦ rw dropped (rest ∙ sym (same_next at k odd e es (sym is) ∙ rw (i.off, i.uncrossed) refl))
            | inr lt ↦ rw dropped (rest ∙ settled at e.polygon k odd es lt a.1 ∙ sym (later_next at k odd e es lt ∙ rw (i.off, i.uncrossed) refl))
          ]
    ]

-- the edges of one polygon, followed by others
any_holds-polygon : (at : Position) (k : ℕ) (odd : Bool) (es : List (Position × Position)) (rest : List Edge)
    → any_holds at k odd (map (edge_of k) es ++ rest) ≡ (touches es at || any_holds at k (turned odd (is_odd (crossings es at))) rest)
any_holds-polygon at k odd [] rest = ap (λ b. any_holds at k b rest) (turned_false odd)
any_holds-polygon at k odd (e ∷ es) rest =
    let more : turned (cond (is_crossed e.0 e.1 at) (not odd) odd) (is_odd (crossings es at)) ≡ turned odd (is_odd (crossings (e ∷ es) at)) =
    sym (turned_more odd (is_crossed e.0 e.1 at) (crossings es at))
    ∙ ap (λ n. turned odd (is_odd n)) (sym (sum_by-cons (λ x. cond (is_crossed x.0 x.1 at) 1 0) e es)) in
    same_next at k odd (edge_of k e) (map (edge_of k) es ++ rest) refl
    ∙ ap (λ b. is_on e.0 e.1 at || b) (any_holds-polygon at k (cond (is_crossed e.0 e.1 at) (not odd) odd) es rest)
    ∙ ap (λ b. is_on e.0 e.1 at || (touches es at || any_holds at k b rest)) more
    ∙ sym (or_assoc (is_on e.0 e.1 at) (touches es at) _)

ascending_map : (k : ℕ) (es : List (Position × Position)) (rest : List Edge) → IsAscending k rest → IsAscending k (map (edge_of k) es ++ rest)
ascending_map k [] rest a = a
ascending_map k (e ∷ es) rest a = (omega arith, ascending_map k es rest a)

pub edges_ascend : (k : ℕ) (polygons : List (List (List Position))) → IsAscending k (edges_from k polygons)
edges_ascend k [] = tt
edges_ascend k (rings ∷ polygons) =
    ascending_map k (edges rings) _ (ascending_from k (k + 1) _ (omega arith) (edges_ascend (k + 1) polygons))

turned_from_false : (b : Bool) → turned false b ≡ b
turned_from_false b = refl

-- all edges of the polygons decide what the polygons hold
pub any_holds-edges : (at : Position) (k : ℕ) (polygons : List (List (List Position))) → any_holds at k false (edges_from k polygons) ≡ area_holds polygons at
unfolding holds
any_holds-edges at k [] = refl
any_holds-edges at k (rings ∷ polygons) =
    any_holds-polygon at k false (edges rings) (edges_from (k + 1) polygons)
    ∙ ap (λ b. touches (edges rings) at || b)
    (settled at (k + 1) k _ (edges_from (k + 1) polygons) (omega arith) (edges_ascend (k + 1) polygons)
    ∙ ap (λ b. is_odd (crossings (edges rings) at) || b) (any_holds-edges at (k + 1) polygons))
    ∙ sym (or_assoc (touches (edges rings) at) (is_odd (crossings (edges rings) at)) _)
