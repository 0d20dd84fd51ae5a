use Rattle.std.proofs.Common.{◌≡◌, Bool, true, false, IsTrue, refl}
use Rattle.mds_geometry.proofs.Seen.{seen_to_more}
use Rattle.mds_geometry.proofs.polygon.Polygon.holds.Goals as goal

-- a test that can't succeed
not_true : (b : Bool) → (IsTrue b → true ≡ false) → b ≡ false
not_true false h = refl
not_true true h = h refl

pub loop-ring-preserved : goal.loop-ring-preserved
loop-ring-preserved c =
    let off = not_true _ c.in-Some.ensures.border.1 in
    seen_to_more _ _ _ _ _ _ c.loop-ring-test.true c.ring-item.is
    off c.in-Some.ensures.odd
    c.loop-ring.invariant
