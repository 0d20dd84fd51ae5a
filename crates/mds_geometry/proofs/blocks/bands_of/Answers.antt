use Rattle.std.proofs.Common.{arith, ◌≡◌, sym, ap, ◌∙◌, subst, ◌++◌, [], ◌∷◌, ◌+◌, ◌<◌, take, drop, length, append_assoc, suc, set}
use Rattle.std.proofs.lemmas.List.{append-nil, length-set, take_all, take_more_set}
use Rattle.mds_geometry.specs.Bounds.{AreIn, AreBanded}
use Rattle.mds_geometry.proofs.blocks.bands_of.Goals as goal

pub loop-place-preserved : goal.loop-place-preserved
loop-place-preserved c = record {
  long = length-set c.loop-place.bands c.loop-place.place c.band_of.result ∙ c.loop-place.invariant.long;
  banded = λ more banded.
      let here : AreIn c.band_of.result (take (suc c.args.size) c.loop-place.rest.now) = subst (AreIn c.band_of.result) c.first_block.ensures c.band_of.ensures in
      let rest : AreBanded c.args.size more (drop c.args.size c.loop-place.rest.now) = subst (AreBanded c.args.size more) c.other_blocks-rest.ensures banded in
      let all = c.loop-place.invariant.banded (c.band_of.result ∷ more) (here, rest) in
      let within : c.loop-place.place < length c.loop-place.bands = omega (arith, c.loop-place.invariant.long, c.loop-place-test.true) in
      let same : take (c.loop-place.place + 1) (set c.loop-place.bands c.loop-place.place c.band_of.result) ++ more ≡ take c.loop-place.place c.loop-place.bands ++ c.band_of.result ∷ more =
      ap (λ bands. bands ++ more) (take_more_set c.loop-place.bands c.loop-place.place c.band_of.result within) ∙ append_assoc (take c.loop-place.place c.loop-place.bands) (c.band_of.result ∷ []) more in
      subst (λ bands. AreBanded c.args.size bands c.args.positions.now) (sym same) all;
}

pub returns : goal.returns
returns c =
    let same = append-nil (take c.loop-place.place c.loop-place.bands) ∙ take_all c.loop-place.place c.loop-place.bands (omega (arith, c.loop-place.invariant.long, c.loop-place-test.false)) in
    subst (λ bands. AreBanded c.args.size bands c.args.positions.now) same (c.loop-place.invariant.banded [] tt)
