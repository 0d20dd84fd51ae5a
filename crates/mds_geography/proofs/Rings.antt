-- The rings of a polygon and the polygons of a multipolygon, one after another.
use Rattle.std.proofs.Common.{◌≡◌, ◌∙◌, ap, sym, refl, ℕ, ◌+◌, ◌<◌, List, [], ◌∷◌, ◌++◌, map, drop, length, get_or, Result, Ok, add-one}
use Rattle.std.proofs.Math.Seq.{drop-cons}
use Rattle.mds_text.specs.Fault.{Fault, ◌>>=◌}
use Rattle.mds_text.specs.Tree.{Json}
use Rattle.mds_geometry.specs.declared.position.Position.{Position}
use Rattle.mds_json.specs.Node.{node_view}
use Rattle.mds_json.specs.declared.node.Node.{Node}
use Rattle.mds_geography.specs.Reading.{Counted, ring_of, rings_of, polygon_of, polygons_of}
use Rattle.mds_geography.proofs.Fronts.{with_front, with_front-push}

-- parts of a whole, each read after those before it
abbrev AreRead : {A : Type 0} → (ℕ → Json → Result (Counted A) Fault) → (ℕ → List Json → Result (Counted (List A)) Fault) → Type 0
AreRead {A} one all = (read now : ℕ) (t : Json) (ts : List Json) (part : A) → one read t ≡ Ok (part, now) → all read (t ∷ ts) ≡ (all now ts >>= λ rest. Ok (part ∷ rest.0, rest.1))

-- one more part
parts_turn : {A : Type 0} (one : ℕ → Json → Result (Counted A) Fault) (all : ℕ → List Json → Result (Counted (List A)) Fault) → AreRead one all
    → (read now : ℕ) (front : List A) (items : List Node) (i : ℕ) (item : Node) (part : A)
    → i < length items → item ≡ get_or items i item → one read (node_view item) ≡ Ok (part, now)
    → with_front (front ++ part ∷ []) (all now (map node_view (drop (i + 1) items))) ≡ with_front front (all read (map node_view (drop i items)))
parts_turn one all next read now front items i item part within is reads =
    let whole : drop i items ≡ item ∷ drop (i + 1) items = drop-cons items i item within ∙ rw (← is, add-one) refl in
    with_front-push front part (all now (map node_view (drop (i + 1) items)))
    ∙ ap (with_front front) (sym (next read now (node_view item) (map node_view (drop (i + 1) items)) part reads))
    ∙ ap (λ ns. with_front front (all read (map node_view ns))) (sym whole)

next_ring : AreRead ring_of rings_of
next_ring read now t ts ring is = rw is refl

next_polygon : AreRead polygon_of polygons_of
next_polygon read now t ts polygon is = rw is refl

-- one more ring
pub rings_turn : (read now : ℕ) (front : List (List Position)) (items : List Node) (i : ℕ) (item : Node) (ring : List Position)
    → i < length items → item ≡ get_or items i item → ring_of read (node_view item) ≡ Ok (ring, now)
    → with_front (front ++ ring ∷ []) (rings_of now (map node_view (drop (i + 1) items))) ≡ with_front front (rings_of read (map node_view (drop i items)))
rings_turn = parts_turn ring_of rings_of next_ring

-- one more polygon
pub polygons_turn : (read now : ℕ) (front : List (List (List Position))) (items : List Node) (i : ℕ) (item : Node) (polygon : List (List Position))
    → i < length items → item ≡ get_or items i item → polygon_of read (node_view item) ≡ Ok (polygon, now)
    → with_front (front ++ polygon ∷ []) (polygons_of now (map node_view (drop (i + 1) items))) ≡ with_front front (polygons_of read (map node_view (drop i items)))
polygons_turn = parts_turn polygon_of polygons_of next_polygon
