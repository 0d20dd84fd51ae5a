-- The edges of some polygons, by where they start.
use Rattle.std.proofs.Common.{arith, ◌≡◌, sym, ◌∙◌, ap, refl, ℕ, suc, zero, ◌+◌, ◌<◌, ◌≤◌, List, [], ◌∷◌, ◌++◌, append_assoc, append-nil, add-one, subst, map, drop, take, length, get_or, cond, Bool, true, false, inl, inr, Option, Some, None}
use Rattle.std.specs.Prelude.{slice_get}
use Rattle.std.specs.List.{cons_option, filter}
use Rattle.std.specs.Option.{option_map_or}
use Rattle.std.proofs.Math.Seq.{take-append_seam}
use Rattle.std.proofs.lemmas.Bool.{cases_Bool}
use Rattle.std.proofs.lemmas.List.{take_more}
use Rattle.std.proofs.lemmas.List.Elements.{filter-append, filter_map-append}
use Rattle.mds_geometry.specs.declared.position.Position.{Position}
use Rattle.mds_geometry.specs.declared.scale.Scale.{Scale}
use Rattle.mds_geometry.specs.declared.start.EdgeStart.{EdgeStart}
use Rattle.mds_geometry.specs.declared.strip.Edge.{Edge}
use Rattle.mds_geometry.specs.Inside.{edges_of_ring}
use Rattle.mds_geometry.specs.Strips.{AreFiled, edge_between, edge_in, edge_of, edges_at, reaches, ring_at}

-- one more start is one more edge, or none
pub edges_more : (polygons : List (List (List Position))) (starts : List EdgeStart) (start : EdgeStart)
    → edges_at polygons (starts ++ start ∷ []) ≡ edges_at polygons starts ++ cons_option (edge_in polygons start) []
edges_more polygons starts start = filter_map-append (edge_in polygons) starts (start ∷ [])

-- ---- the edges of a ring, one after another

pub first_edge : (k : ℕ) (ring : List Position) (i : ℕ) → i + 1 < length ring
    → cons_option (edge_between k (slice_get ring i) (slice_get ring (suc i))) [] ++ map (edge_of k) (edges_of_ring (drop (suc i) ring))
    ≡ map (edge_of k) (edges_of_ring (drop i ring))
first_edge k [] i within = absurd (omega arith)
first_edge k (x ∷ []) i within = absurd (omega arith)
first_edge k (x ∷ y ∷ ring) zero within = refl
first_edge k (x ∷ y ∷ ring) (suc i) within = first_edge k (y ∷ ring) i (omega arith)

-- no edge starts at the last position
pub no_edge : (k : ℕ) (ring : List Position) (i : ℕ) → length ring ≤ i + 1 → map (edge_of k) (edges_of_ring (drop i ring)) ≡ []
no_edge k [] zero few = refl
no_edge k [] (suc i) few = refl
no_edge k (x ∷ []) zero few = refl
no_edge k (x ∷ y ∷ ring) zero few = absurd (omega arith)
no_edge k (x ∷ ring) (suc i) few = no_edge k ring i (omega arith)

-- the edges of a ring's starts up to an index, with the rest of the ring's edges, are those of the old starts and of
-- the whole ring
abbrev pub AreStartedTo : List (List (List Position)) → ℕ → ℕ → List EdgeStart → List EdgeStart → ℕ → Type 0
AreStartedTo polygons k r old all i =
    edges_at polygons all ++ map (edge_of k) (edges_of_ring (drop i (ring_at polygons k r)))
    ≡ edges_at polygons old ++ map (edge_of k) (edges_of_ring (ring_at polygons k r))

pub started_more : (polygons : List (List (List Position))) (k r : ℕ) (old all : List EdgeStart) (i p : ℕ) → p ≡ i → i + 1 < length (ring_at polygons k r)
    → AreStartedTo polygons k r old all i → AreStartedTo polygons k r old (all ++ record { polygon = k; ring = r; position = p } ∷ []) (i + 1)
started_more polygons k r old all i p is within before =
    let ring = ring_at polygons k r in
    let start : EdgeStart = record { polygon = k; ring = r; position = i } in
    let next : i + 1 ≡ suc i = add-one i in
    let rest = map (edge_of k) (edges_of_ring (drop (suc i) ring)) in
    let edge : edge_in polygons start ≡ edge_between k (slice_get ring i) (slice_get ring (suc i)) = ap (λ n. edge_between k (slice_get ring i) (slice_get ring n)) next in
    rw (is, next) (
    ap (λ es. es ++ rest) (edges_more polygons all start ∙ ap (λ o. edges_at polygons all ++ cons_option o []) edge)
    ∙ append_assoc (edges_at polygons all) (cons_option (edge_between k (slice_get ring i) (slice_get ring (suc i))) []) rest
    ∙ ap (λ es. edges_at polygons all ++ es) (first_edge k ring i within)
    ∙ before)

pub started_all : (polygons : List (List (List Position))) (k r : ℕ) (old all : List EdgeStart) (i : ℕ) → length (ring_at polygons k r) ≤ i + 1
    → AreStartedTo polygons k r old all i → edges_at polygons all ≡ edges_at polygons old ++ map (edge_of k) (edges_of_ring (ring_at polygons k r))
started_all polygons k r old all i few before =
    sym (append-nil (edges_at polygons all)) ∙ ap (λ es. edges_at polygons all ++ es) (sym (no_edge k (ring_at polygons k r) i few)) ∙ before

-- ---- an edge that is appended to the strips that it reaches

filter_one : (p : Edge → Bool) (e : Edge) → filter p (e ∷ []) ≡ cond (p e) (e ∷ []) []
filter_one p e = elim (cases_Bool (p e)) [ inl kept ↦ rw kept refl | inr dropped ↦ rw dropped refl ]

-- a start gives its edge where a strip has it, and none where not
kept_edge : (polygons : List (List (List Position))) (start : EdgeStart) (e : Edge) (b : Bool) → edge_in polygons start ≡ Some e
    → edges_at polygons (cond b (start ∷ []) []) ≡ cond b (e ∷ []) []
kept_edge polygons start e false is = refl
kept_edge polygons start e true is = ap (λ o. cons_option o []) is

-- the same where there may be no edge
kept_start : (polygons : List (List (List Position))) (start : EdgeStart) (p : Edge → Bool) (edge : Option Edge) → edge ≡ edge_in polygons start
    → edges_at polygons (cond (option_map_or p edge false) (start ∷ []) []) ≡ filter p (cons_option edge [])
kept_start polygons start p None is = refl
kept_start polygons start p (Some e) is = kept_edge polygons start e (p e) (sym is) ∙ sym (filter_one p e)

pub filed_more : (polygons : List (List (List Position))) (scale : Scale) (starts : List EdgeStart) (i : ℕ) (start : EdgeStart) (edge : Option Edge) (old new : List (List EdgeStart))
    → i < length starts → start ≡ get_or starts i start → edge ≡ edge_in polygons start → length new ≡ length old
    → ((s : ℕ) → s < length old → get_or new s [] ≡ get_or old s [] ++ cond (option_map_or (reaches scale s) edge false) (start ∷ []) [])
    → AreFiled polygons scale (edges_at polygons (take i starts)) old → AreFiled polygons scale (edges_at polygons (take (i + 1) starts)) new
filed_more polygons scale starts i start edge old new within here is whole put filed =
    let more : edges_at polygons (take (i + 1) starts) ≡ edges_at polygons (take i starts) ++ cons_option edge [] =
    ap (edges_at polygons) (take_more starts i start within ∙ ap (λ s. take i starts ++ s ∷ []) (sym here))
    ∙ edges_more polygons (take i starts) start ∙ ap (λ o. edges_at polygons (take i starts) ++ cons_option o []) (sym is) in
    record {
      whole = whole ∙ filed.whole;
      filed = λ s inside.
          let before : s < length old = omega arith in
          ap (edges_at polygons) (put s before)
          ∙ filter_map-append (edge_in polygons) (get_or old s []) (cond (option_map_or (reaches scale s) edge false) (start ∷ []) [])
          ∙ ap (λ es. edges_at polygons (get_or old s []) ++ es) (kept_start polygons start (reaches scale s) edge is)
          ∙ ap (λ es. es ++ filter (reaches scale s) (cons_option edge [])) (filed.filed s before)
          ∙ sym (filter-append (reaches scale s) (edges_at polygons (take i starts)) (cons_option edge []))
          ∙ ap (filter (reaches scale s)) (sym more);
    }

-- the same for a vector of which a slice was changed
pub filed_back : (polygons : List (List (List Position))) (scale : Scale) (starts : List EdgeStart) (i : ℕ) (start : EdgeStart) (edge : Option Edge) (items old new : List (List EdgeStart)) (n : ℕ)
    → i < length starts → start ≡ get_or starts i start → edge ≡ edge_in polygons start → old ≡ items → length old ≡ n → length new ≡ length old
    → ((s : ℕ) → s < length old → get_or new s [] ≡ get_or old s [] ++ cond (option_map_or (reaches scale s) edge false) (start ∷ []) [])
    → AreFiled polygons scale (edges_at polygons (take i starts)) items
    → AreFiled polygons scale (edges_at polygons (take (i + 1) starts)) (take n (new ++ drop (length new) items))
filed_back polygons scale starts i start edge items old new n within here is same long whole put filed =
    subst (AreFiled polygons scale (edges_at polygons (take (i + 1) starts)))
    (sym (ap (λ k. take k (new ++ drop (length new) items)) (sym (whole ∙ long)) ∙ take-append_seam new (drop (length new) items)))
    (filed_more polygons scale starts i start edge old new within here is whole put
    (subst (AreFiled polygons scale (edges_at polygons (take i starts))) (sym same) filed))
