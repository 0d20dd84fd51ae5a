-- Of two positions in one row of cells, with no edge covering a cell between them, both are held or neither is.
use Rattle.std.proofs.Common.{arith, inl, inr, ◌⊎◌, ◌≡◌, sym, ◌∙◌, ap, refl, ℕ, ◌+◌, ◌≤◌, ◌<◌, Bool, true, false, cond, ◌&&◌, ◌||◌, ℤ, List, [], ◌∷◌, ◌++◌, map}
use Rattle.std.specs.Prelude.{◌≤ℤ◌, ◌<ℤ◌, nat_lt}
use Rattle.std.specs.List.{All, list_any}
use Rattle.std.proofs.lemmas.Bool.{cases_Bool, cases_lt}
use Rattle.std.proofs.lemmas.Bool.Decides.{nat_tests}
use Rattle.std.proofs.lemmas.Int.{ints}
use Rattle.std.proofs.lemmas.List.Elements.{All-nil, All-cons, All-head, All-tail, All-weaker}
use Rattle.std.proofs.lemmas.List.Sums.{sum_by-cons, sum_by-append}
use Rattle.std.proofs.lemmas.List.Folds.{list_any-append}
use Rattle.mds_geometry.specs.declared.position.Position.{Position}
use Rattle.mds_geometry.specs.declared.scale.Scale.{Scale}
use Rattle.mds_geometry.specs.declared.strip.Edge.{Edge}
use Rattle.mds_geometry.specs.Area.{area_holds}
use Rattle.mds_geometry.specs.Grid.{covers}
use Rattle.mds_geometry.specs.Inside.{edges_of_ring, edges, is_on, is_crossed, touches, crossings, is_odd, holds}
use Rattle.mds_geometry.specs.Ring.{IsClosed}
use Rattle.mds_geometry.specs.Strips.{edge_of, edges_from, lies_between, strip_of}
use Rattle.mds_geometry.proofs.Outside.{below, beyond, closed_ends, flip, last, off_between, turned-path, turned-self}
use Rattle.mds_geometry.proofs.Reaching.{idle_unreached, lies_down, lies_up, strip_rises}
use Rattle.mds_geometry.proofs.Seen.{turned, turned_more, is_odd-add}
use Rattle.mds_geometry.proofs.Signs.{above, crossed_west, crossed_east}

-- ---- where an edge lies that covers no cell of a run of cells

no_span_up : (a b c d : ℕ) → a ≤ b → c ≤ b → a ≤ d → c ≤ d → ((n : ℕ) → c ≤ n → n ≤ d → lies_between a b n ≡ false) → ⊥
no_span_up a b c d up from to run none =
    elim (cases_lt c a) [
      | inl lt ↦ let both : true ≡ false = sym (lies_up a b a (omega arith) (omega arith)) ∙ none a (omega arith) (omega arith) in cc
      | inr le ↦ let both : true ≡ false = sym (lies_up a b c (omega arith) (omega arith)) ∙ none c (omega arith) (omega arith) in cc
    ]

no_span_down : (a b c d : ℕ) → b ≤ a → c ≤ a → b ≤ d → c ≤ d → ((n : ℕ) → c ≤ n → n ≤ d → lies_between a b n ≡ false) → ⊥
no_span_down a b c d down from to run none =
    elim (cases_lt c b) [
      | inl lt ↦ let both : true ≡ false = sym (lies_down a b b (omega arith) (omega arith)) ∙ none b (omega arith) (omega arith) in cc
      | inr le ↦ let both : true ≡ false = sym (lies_down a b c (omega arith) (omega arith)) ∙ none c (omega arith) (omega arith) in cc
    ]

-- an interval without a number of the run lies on one side of it
beside_run : (a b c d : ℕ) → c ≤ d → ((n : ℕ) → c ≤ n → n ≤ d → lies_between a b n ≡ false) → ((a < c) × (b < c)) ⊎ ((d < a) × (d < b))
beside_run a b c d run none =
    elim (cases_lt b a) [
      | inl down ↦ elim (cases_lt a c) [
        | inl west ↦ inl (west, omega arith)
        | inr from ↦ elim (cases_lt d b) [
          | inl east ↦ inr (omega arith, east)
          | inr to ↦ absurd (no_span_down a b c d (omega arith) from to run none)
        ]
      ]
      | inr up ↦ elim (cases_lt b c) [
        | inl west ↦ inl (omega arith, west)
        | inr from ↦ elim (cases_lt d a) [
          | inl east ↦ inr (east, omega arith)
          | inr to ↦ absurd (no_span_up a b c d up from to run none)
        ]
      ]
    ]

-- ---- an edge and two positions

order : (a b : ℤ) → (a <ℤ b) ⊎ (b ≤ℤ a)
order a b = grind (arith, ints)

strip_beyond : (scale : Scale) (a b : ℤ) → strip_of scale a < strip_of scale b → a <ℤ b
strip_beyond scale a b lt =
    elim (order a b) [ inl less ↦ less | inr most ↦ absurd (let le = strip_rises scale b a most in omega arith) ]

is_above : (at p : Position) → at.lat <ℤ p.lat → above at p ≡ true
is_above at p h = grind (arith, ints)

isnt_above : (at p : Position) → p.lat <ℤ at.lat → above at p ≡ false
isnt_above at p h = grind (arith, ints)

turned-cross : (a b c d : Bool) → turned (turned a b) (turned c d) ≡ turned (turned a c) (turned b d)
turned-cross false false false false = refl
turned-cross false false false true = refl
turned-cross false false true false = refl
turned-cross false false true true = refl
turned-cross false true false false = refl
turned-cross false true false true = refl
turned-cross false true true false = refl
turned-cross false true true true = refl
turned-cross true false false false = refl
turned-cross true false false true = refl
turned-cross true false true false = refl
turned-cross true false true true = refl
turned-cross true true false false = refl
turned-cross true true false true = refl
turned-cross true true true false = refl
turned-cross true true true true = refl

-- whether an end of an edge is east of a run of columns and between the latitudes of two positions
abbrev pub side : Scale → ℕ → Position → Position → Position → Bool
side columns d at to p = nat_lt d (strip_of columns p.lng) && turned (above at p) (above to p)

-- neither position is on the edge, and it is crossed from exactly one of them where its ends are on different sides
pub record IsAlike (at to : Position) (S : Position → Bool) (e : Position × Position) : Type 0 where
  pub off : is_on e.0 e.1 at ≡ false
  pub off_to : is_on e.0 e.1 to ≡ false
  pub parity : turned (is_crossed e.0 e.1 at) (is_crossed e.0 e.1 to) ≡ turned (S e.0) (S e.1)

east_of : (d n : ℕ) → d < n → nat_lt d n ≡ true
east_of d n h = grind (arith, nat_tests)

west_of : (d n : ℕ) → n ≤ d → nat_lt d n ≡ false
west_of d n h = grind (arith, nat_tests)

alike_east : (columns : Scale) (d : ℕ) (at to p q : Position)
    → strip_of columns at.lng ≤ d → strip_of columns to.lng ≤ d → d < strip_of columns p.lng → d < strip_of columns q.lng
    → IsAlike at to (side columns d at to) (p, q)
alike_east columns d at to p q a b u v =
    let pa = strip_beyond columns at.lng p.lng (omega arith) in
    let qa = strip_beyond columns at.lng q.lng (omega arith) in
    let pt = strip_beyond columns to.lng p.lng (omega arith) in
    let qt = strip_beyond columns to.lng q.lng (omega arith) in
    record {
      off = off_between p q at (below p.lng q.lng at.lng pa qa);
      off_to = off_between p q to (below p.lng q.lng to.lng pt qt);
      parity =
          rw (crossed_west p q at pa qa, crossed_west p q to pt qt, east_of d (strip_of columns p.lng) u, east_of d (strip_of columns q.lng) v)
          (turned-cross (above at p) (above at q) (above to p) (above to q));
    }

alike_west : (columns : Scale) (c d : ℕ) (at to p q : Position)
    → c ≤ d → c ≤ strip_of columns at.lng → c ≤ strip_of columns to.lng → strip_of columns p.lng < c → strip_of columns q.lng < c
    → IsAlike at to (side columns d at to) (p, q)
alike_west columns c d at to p q run a b u v =
    let pa = strip_beyond columns p.lng at.lng (omega arith) in
    let qa = strip_beyond columns q.lng at.lng (omega arith) in
    let pt = strip_beyond columns p.lng to.lng (omega arith) in
    let qt = strip_beyond columns q.lng to.lng (omega arith) in
    record {
      off = off_between p q at (beyond p.lng q.lng at.lng pa qa);
      off_to = off_between p q to (beyond p.lng q.lng to.lng pt qt);
      parity =
          rw (crossed_east p q at pa qa, crossed_east p q to pt qt, west_of d (strip_of columns p.lng) (omega arith), west_of d (strip_of columns q.lng) (omega arith))
          refl;
    }

-- both ends of an interval that lacks the row are off it
off_row : (a b r : ℕ) → lies_between a b r ≡ false → ((r < a) ⊎ (a < r)) × ((r < b) ⊎ (b < r))
off_row a b r h = grind (arith, nat_tests)

same_side : (rows : Scale) (r : ℕ) (at to p : Position) → strip_of rows at.lat ≡ r → strip_of rows to.lat ≡ r
    → (r < strip_of rows p.lat) ⊎ (strip_of rows p.lat < r) → turned (above at p) (above to p) ≡ false
same_side rows r at to p a b beside =
    elim beside [
      | inl north ↦
          rw (is_above at p (strip_beyond rows at.lat p.lat (omega arith)), is_above to p (strip_beyond rows to.lat p.lat (omega arith))) refl
      | inr south ↦
          rw (isnt_above at p (strip_beyond rows p.lat at.lat (omega arith)), isnt_above to p (strip_beyond rows p.lat to.lat (omega arith))) refl
    ]

and_none : (b : Bool) → (b && false) ≡ false
and_none false = refl
and_none true = refl

alike_beside : (columns rows : Scale) (d r : ℕ) (at to p q : Position) → strip_of rows at.lat ≡ r → strip_of rows to.lat ≡ r
    → lies_between (strip_of rows p.lat) (strip_of rows q.lat) r ≡ false
    → IsAlike at to (side columns d at to) (p, q)
alike_beside columns rows d r at to p q a b beside =
    let e : Edge = record { from = p; to = q; polygon = 0 } in
    let idle = idle_unreached rows at e (ap (lies_between (strip_of rows p.lat) (strip_of rows q.lat)) a ∙ beside) in
    let idle_to = idle_unreached rows to e (ap (lies_between (strip_of rows p.lat) (strip_of rows q.lat)) b ∙ beside) in
    let ends = off_row (strip_of rows p.lat) (strip_of rows q.lat) r beside in
    record {
      off = idle.off;
      off_to = idle_to.off;
      parity =
          rw (
            idle.uncrossed,
            idle_to.uncrossed,
            same_side rows r at to p a b ends.0,
            same_side rows r at to q a b ends.1,
            and_none (nat_lt d (strip_of columns p.lng)),
            and_none (nat_lt d (strip_of columns q.lng)),
          )
          refl;
    }

-- two positions of one row, with a run of columns from one to the other
pub record AreInRun (columns rows : Scale) (r c d : ℕ) (at to : Position) : Type 0 where
  pub row : strip_of rows at.lat ≡ r
  pub row_to : strip_of rows to.lat ≡ r
  pub first : c ≡ strip_of columns at.lng
  pub last : d ≡ strip_of columns to.lng
  pub run : c ≤ d

uncovered_part : (a b : Bool) → a ≡ true → (a && b) ≡ false → b ≡ false
uncovered_part a b is h = grind arith

alike : (columns rows : Scale) (r c d : ℕ) (at to : Position) → AreInRun columns rows r c d at to
    → (e : Edge) → ((n : ℕ) → c ≤ n → n ≤ d → covers columns rows r n e ≡ false) → IsAlike at to (side columns d at to) (e.from, e.to)
alike columns rows r c d at to run e none =
    elim (cases_Bool (lies_between (strip_of rows e.from.lat) (strip_of rows e.to.lat) r)) [
      | inl reached ↦
          let beside = beside_run (strip_of columns e.from.lng) (strip_of columns e.to.lng) c d run.run
          (λ n low high. uncovered_part _ (lies_between (strip_of columns e.from.lng) (strip_of columns e.to.lng) n) reached (none n low high)) in
          elim beside [
            | inl west ↦
                alike_west columns c d at to e.from e.to run.run (let f = run.first in omega arith) (let f = run.last in let g = run.run in omega arith) west.0 west.1
            | inr east ↦
                alike_east columns d at to e.from e.to (let f = run.first in let g = run.run in omega arith) (let f = run.last in omega arith) east.0 east.1
          ]
      | inr unreached ↦ alike_beside columns rows d r at to e.from e.to run.row run.row_to unreached
    ]

-- ---- rings

odd_cons : (at x y : Position) (rest : List Position)
    → is_odd (crossings (edges_of_ring (x ∷ y ∷ rest)) at) ≡ turned (is_crossed x y at) (is_odd (crossings (edges_of_ring (y ∷ rest)) at))
odd_cons at x y rest =
    ap is_odd (sum_by-cons (λ e. cond (is_crossed e.0 e.1 at) 1 0) (x, y) (edges_of_ring (y ∷ rest)))
    ∙ turned_more false (is_crossed x y at) (crossings (edges_of_ring (y ∷ rest)) at)
    ∙ ap (λ b. turned b (is_odd (crossings (edges_of_ring (y ∷ rest)) at))) (flip (is_crossed x y at))

-- neither position is on one of these edges, and the parities of the edges crossed from each differ where `ends` says
-- so
pub record AreAlike (at to : Position) (es : List (Position × Position)) (ends : Bool) : Type 0 where
  pub off : touches es at ≡ false
  pub off_to : touches es to ≡ false
  pub parity : turned (is_odd (crossings es at)) (is_odd (crossings es to)) ≡ ends

ring_alike : (at to : Position) (S : Position → Bool) (x : Position) (rest : List Position) → All (IsAlike at to S) (edges_of_ring (x ∷ rest))
    → AreAlike at to (edges_of_ring (x ∷ rest)) (turned (S x) (S (last x rest)))
unfolding last
ring_alike at to S x [] all = record { off = refl; off_to = refl; parity = sym (turned-self (S x)) }
ring_alike at to S x (y ∷ rest) all =
    let here = All-head (IsAlike at to S) (x, y) (edges_of_ring (y ∷ rest)) all in
    let more = ring_alike at to S y rest (All-tail (IsAlike at to S) (x, y) (edges_of_ring (y ∷ rest)) all) in
    record {
      off = rw here.off more.off;
      off_to = rw here.off_to more.off_to;
      parity =
          ap (λ b. turned b (is_odd (crossings (edges_of_ring (x ∷ y ∷ rest)) to))) (odd_cons at x y rest)
          ∙ ap (λ b. turned (turned (is_crossed x y at) (is_odd (crossings (edges_of_ring (y ∷ rest)) at))) b) (odd_cons to x y rest)
          ∙ turned-cross (is_crossed x y at) (is_odd (crossings (edges_of_ring (y ∷ rest)) at)) (is_crossed x y to) (is_odd (crossings (edges_of_ring (y ∷ rest)) to))
          ∙ ap (λ b. turned b (turned (is_odd (crossings (edges_of_ring (y ∷ rest)) at)) (is_odd (crossings (edges_of_ring (y ∷ rest)) to)))) here.parity
          ∙ ap (turned (turned (S x) (S y))) more.parity
          ∙ turned-path (S x) (S y) (S (last y rest));
    }

closed_alike : (at to : Position) (S : Position → Bool) (ring : List Position) → IsClosed ring → All (IsAlike at to S) (edges_of_ring ring)
    → AreAlike at to (edges_of_ring ring) false
closed_alike at to S [] closed all = record { off = refl; off_to = refl; parity = refl }
closed_alike at to S (x ∷ rest) closed all =
    let open_ends = ring_alike at to S x rest all in
    record {
      off = open_ends.off;
      off_to = open_ends.off_to;
      parity = open_ends.parity ∙ ap (λ y. turned (S x) (S y)) (sym (closed_ends x rest closed)) ∙ turned-self (S x);
    }

-- ---- polygons

All-front : {X : Type 0} (P : X → Type 0) (xs ys : List X) → All P (xs ++ ys) → All P xs
All-front P [] ys all = All-nil P
All-front P (x ∷ xs) ys all = All-cons P x xs (All-head P x (xs ++ ys) all) (All-front P xs ys (All-tail P x (xs ++ ys) all))

All-back : {X : Type 0} (P : X → Type 0) (xs ys : List X) → All P (xs ++ ys) → All P ys
All-back P [] ys all = all
All-back P (x ∷ xs) ys all = All-back P xs ys (All-tail P x (xs ++ ys) all)

polygon_alike : (at to : Position) (S : Position → Bool) (rings : List (List Position)) → All IsClosed rings → All (IsAlike at to S) (edges rings)
    → AreAlike at to (edges rings) false
polygon_alike at to S [] closed all = record { off = refl; off_to = refl; parity = refl }
polygon_alike at to S (ring ∷ rings) closed all =
    let here = closed_alike at to S ring (All-head IsClosed ring rings closed) (All-front (IsAlike at to S) (edges_of_ring ring) (edges rings) all) in
    let more = polygon_alike at to S rings (All-tail IsClosed ring rings closed) (All-back (IsAlike at to S) (edges_of_ring ring) (edges rings) all) in
    let split = λ (p : Position). ap is_odd (sum_by-append (λ e. cond (is_crossed e.0 e.1 p) 1 0) (edges_of_ring ring) (edges rings))
    ∙ is_odd-add (crossings (edges_of_ring ring) p) (crossings (edges rings) p) in
    record {
      off = list_any-append _ (edges_of_ring ring) (edges rings) ∙ rw (here.off, more.off) refl;
      off_to = list_any-append _ (edges_of_ring ring) (edges rings) ∙ rw (here.off_to, more.off_to) refl;
      parity =
          ap (λ b. turned b (is_odd (crossings (edges (ring ∷ rings)) to))) (split at)
          ∙ ap (λ b. turned (turned (is_odd (crossings (edges_of_ring ring) at)) (is_odd (crossings (edges rings) at))) b) (split to)
          ∙ turned-cross (is_odd (crossings (edges_of_ring ring) at)) (is_odd (crossings (edges rings) at)) (is_odd (crossings (edges_of_ring ring) to)) (is_odd (crossings (edges rings) to))
          ∙ rw (here.parity, more.parity) refl;
    }

turned_same : (a b : Bool) → turned a b ≡ false → a ≡ b
turned_same false false h = refl
turned_same true true h = refl
turned_same false true h = sym h
turned_same true false h = h

holds_alike : (at to : Position) (rings : List (List Position)) → AreAlike at to (edges rings) false → holds rings at ≡ holds rings to
unfolding holds
holds_alike at to rings same =
    rw (same.off, same.off_to) (turned_same _ _ same.parity)

-- the ends of an edge of an area
abbrev ends_of : Edge → Position × Position
ends_of e = (e.from, e.to)

All-unmap : (P : Position × Position → Type 0) (k : ℕ) (es : List (Position × Position)) → All (λ e. P (ends_of e)) (map (edge_of k) es) → All P es
All-unmap P k [] all = All-nil P
All-unmap P k (e ∷ es) all =
    All-cons P e es (All-head (λ x. P (ends_of x)) (edge_of k e) (map (edge_of k) es) all)
    (All-unmap P k es (All-tail (λ x. P (ends_of x)) (edge_of k e) (map (edge_of k) es) all))

area_alike : (at to : Position) (S : Position → Bool) (k : ℕ) (polygons : List (List (List Position))) → All (All IsClosed) polygons
    → All (λ e. IsAlike at to S (ends_of e)) (edges_from k polygons) → area_holds polygons at ≡ area_holds polygons to
area_alike at to S k [] closed all = refl
area_alike at to S k (rings ∷ polygons) closed all =
    let P = λ (e : Edge). IsAlike at to S (ends_of e) in
    let here = polygon_alike at to S rings (All-head (All IsClosed) rings polygons closed)
    (All-unmap (IsAlike at to S) k (edges rings) (All-front P (map (edge_of k) (edges rings)) (edges_from (k + 1) polygons) all)) in
    let more = area_alike at to S (k + 1) polygons (All-tail (All IsClosed) rings polygons closed)
    (All-back P (map (edge_of k) (edges rings)) (edges_from (k + 1) polygons) all) in
    rw (holds_alike at to rings here, more) refl

none_left : (a b : Bool) → (a || b) ≡ false → (a ≡ false) × (b ≡ false)
none_left a b h = grind arith

none_covers : (P : ℕ → Edge → Bool) (c d : ℕ) (es : List Edge) → ((n : ℕ) → c ≤ n → n ≤ d → list_any (P n) es ≡ false)
    → All (λ e. (n : ℕ) → c ≤ n → n ≤ d → P n e ≡ false) es
none_covers P c d [] none = All-nil (λ e. (n : ℕ) → c ≤ n → n ≤ d → P n e ≡ false)
none_covers P c d (e ∷ es) none =
    All-cons (λ x. (n : ℕ) → c ≤ n → n ≤ d → P n x ≡ false) e es
    (λ n low high. (none_left (P n e) (list_any (P n) es) (none n low high)).0)
    (none_covers P c d es (λ n low high. (none_left (P n e) (list_any (P n) es) (none n low high)).1))

pub run_alike : (columns rows : Scale) (r c d : ℕ) (at to : Position) (polygons : List (List (List Position))) → All (All IsClosed) polygons
    → AreInRun columns rows r c d at to → ((n : ℕ) → c ≤ n → n ≤ d → list_any (covers columns rows r n) (edges_from 0 polygons) ≡ false)
    → area_holds polygons at ≡ area_holds polygons to
run_alike columns rows r c d at to polygons closed run none =
    area_alike at to (side columns d at to) 0 polygons closed
    (All-weaker (λ e. (n : ℕ) → c ≤ n → n ≤ d → covers columns rows r n e ≡ false) (λ e. IsAlike at to (side columns d at to) (ends_of e))
    (alike columns rows r c d at to run) (edges_from 0 polygons)
    (none_covers (covers columns rows r) c d (edges_from 0 polygons) none))
