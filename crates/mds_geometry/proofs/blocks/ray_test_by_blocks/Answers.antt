use Rattle.std.proofs.Common.{◌≡◌, Bool, true, false, IsTrue, refl, sym, subst, ap, ◌∙◌, ◌+◌, suc, take, drop}
use Rattle.mds_geometry.specs.Bounds.{AreBanded}
use Rattle.mds_geometry.specs.Inside.{edges_of_ring, touches, crossings, is_odd}
use Rattle.mds_geometry.proofs.Banded.{banded_more, seen_block, seen_touched}
use Rattle.mds_geometry.proofs.blocks.ray_test_by_blocks.Goals as goal

-- a test that can't succeed
not_true : (b : Bool) → (IsTrue b → true ≡ false) → b ≡ false
not_true false h = refl
not_true true h = h refl

pub returns-in_default-clause-border : goal.returns-in_default-clause-border
returns-in_default-clause-border c =
    let on : touches (edges_of_ring (take (suc c.args.size) c.loop-band.rest.now)) c.args.at.now ≡ true =
    ap (λ block. touches (edges_of_ring block) c.args.at.now) (sym c.first_block.ensures) ∙ c.in_default.ensures.border.0 refl in (
      (λ h. seen_touched c.args.positions.now c.loop-band.rest.now c.args.at.now c.loop-band.odd c.args.size c.loop-band.invariant.seen on),
      (λ h. refl),
    )

pub loop-band-preserved : goal.loop-band-preserved
loop-band-preserved c =
    let off = not_true _ c.in-Some.ensures.border.1 in
    record {
      banded =
          subst (AreBanded c.args.size (drop (c.loop-band.band-index + 1) c.args.bands.now)) (sym c.other_blocks-rest.ensures)
          (banded_more c.args.size c.loop-band.band-index c.args.bands.now c.loop-band.rest.now c.loop-band.invariant.banded);
      seen =
          rw c.other_blocks-rest.ensures
          (seen_block c.args.positions.now c.loop-band.rest.now c.args.at.now c.loop-band.odd c.in-Some.crosses c.args.size c.loop-band.invariant.seen
          (ap (λ block. touches (edges_of_ring block) c.args.at.now) (sym c.first_block.ensures) ∙ off)
          (c.in-Some.ensures.odd ∙ ap (λ block. is_odd (crossings (edges_of_ring block) c.args.at.now)) c.first_block.ensures));
    }
