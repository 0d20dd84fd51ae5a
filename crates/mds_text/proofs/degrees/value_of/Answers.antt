use Rattle.std.proofs.Common.{◌∙◌, arith}
use Rattle.mds_text.proofs.Leading.{digits_value-turn}
use Rattle.mds_text.proofs.degrees.value_of.Goals as goal

pub loop-place-preserved : goal.loop-place-preserved
loop-place-preserved c =
    digits_value-turn c.args.digits.now c.loop-place.place c.loop-place.value c.from.result c.loop-place-test.true c.loop-place.invariant.0 c.loop-place.invariant.1 (c.from.ensures ∙ c.digit_of.ensures.value)
    (omega (arith, c.from.ensures, c.digit_of.ensures.small))
