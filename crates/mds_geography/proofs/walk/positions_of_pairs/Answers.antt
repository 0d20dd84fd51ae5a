use Rattle.std.proofs.Common.{◌≡◌, ℕ, ◌<◌, List, [], ◌∷◌, length, drop, map, Err, refl, sym, ap, ◌∙◌, arith}
use Rattle.std.specs.Borrow.{Bor}
use Rattle.std.proofs.lemmas.List.{length-drop}
use Rattle.mds_text.specs.Fault.{too_many_points}
use Rattle.mds_geometry.specs.declared.position.Position.{Position}
use Rattle.mds_json.specs.Node.{pair_view}
use Rattle.mds_geography.specs.Reading.{positions_of, most_positions}
use Rattle.mds_geography.proofs.Fronts.{with_front}
use Rattle.mds_geography.proofs.walk.positions_of_pairs.Goals as goal

-- one position more than a geography may have
full : (front : List Position) (ps : List (Bor (List ℕ) × Bor (List ℕ))) → 0 < length ps → with_front front (positions_of most_positions (map pair_view ps)) ≡ Err too_many_points
full front [] some = absurd (omega (arith, some))
full front (p ∷ ps) some = refl

pub returns-then-read-eq-MOST_POSITIONS-clause-value : goal.returns-then-read-eq-MOST_POSITIONS-clause-value
returns-then-read-eq-MOST_POSITIONS-clause-value c =
    let l = c.loop-pair in
    let more = drop l.pair-index c.args.pairs.now in
    let some : 0 < length more = omega (arith, length-drop l.pair-index c.args.pairs.now, c.loop-pair-test.true) in
    let last : l.read ≡ most_positions = c.if-read-eq-MOST_POSITIONS.true in
    sym l.invariant.whole ∙ ap (λ n. with_front l.positions.items (positions_of n (map pair_view more))) last ∙ full l.positions.items more some
