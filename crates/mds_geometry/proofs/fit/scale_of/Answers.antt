use Rattle.std.proofs.Common.{arith, ◌≡◌, ℕ, ◌+◌, ◌*◌, ◌≤◌, List, [], ◌∷◌, length}
use Rattle.std.specs.Int.{abs_diff}
use Rattle.std.specs.List.{sum_by}
use Rattle.std.proofs.lemmas.Bool.Decides.{nat_tests}
use Rattle.std.proofs.lemmas.List.Sums.{sum_by-cons}
use Rattle.mds_geometry.specs.Strips.{at_most, span, strip_of}
use Rattle.mds_geometry.specs.declared.scale.Scale.{Scale}
use Rattle.mds_geometry.specs.declared.strip.Edge.{Edge}
use Rattle.mds_geometry.proofs.Spans.{few_places}
use Rattle.mds_geometry.proofs.fit.scale_of.Goals as goal

at_most_none : (last n : ℕ) → last ≡ 0 → at_most last n ≡ 0
at_most_none last n is = grind (arith, nat_tests)

one_strip : (scale : Scale) → scale.last ≡ 0 → (e : Edge) → span scale e ≡ 1
one_strip scale is e =
    let from : strip_of scale e.from.lat ≡ 0 = at_most_none scale.last _ is in
    let to : strip_of scale e.to.lat ≡ 0 = at_most_none scale.last _ is in
    let none : (a b : ℕ) → a ≡ 0 → b ≡ 0 → abs_diff a b + 1 ≡ 1 = λ a b p q. omega arith in
    none (strip_of scale e.from.lat) (strip_of scale e.to.lat) from to

-- in one strip each edge has one place
one_place : (scale : Scale) → scale.last ≡ 0 → (es : List Edge) → sum_by (span scale) es ≤ 4 * length es
one_place scale is [] = omega arith
one_place scale is (e ∷ es) =
    let more = sum_by-cons (span scale) e es in
    let here = one_strip scale is e in
    let rest = one_place scale is es in
    omega arith

pub returns-then-is_sparse : goal.returns-then-is_sparse
returns-then-is_sparse c =
    let known = c.is_sparse.ensures.known c.if-is_sparse.true in
    few_places c.between-scale.result c.args.edges.now c.args.extents.now.rows.reach c.loop-shift.shift
    c.between-scale.ensures (c.requires known) (c.is_sparse.ensures.spare c.if-is_sparse.true)

pub returns : goal.returns
returns c = one_place c.one_strip.result c.one_strip.ensures c.args.edges.now
