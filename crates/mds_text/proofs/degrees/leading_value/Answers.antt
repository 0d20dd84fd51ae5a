use Rattle.std.proofs.Common.{◌++◌, ◌+◌, ◌∙◌, sym, arith}
use Rattle.mds_text.proofs.Leading.{leading-turn, leading-zero, up_to_limit-over}
use Rattle.mds_text.proofs.degrees.leading_value.Goals as goal

pub loop-place-init : goal.loop-place-init
loop-place-init c = (sym (leading-zero (c.args.whole.now ++ c.args.fraction.now)), omega arith)

pub returns-then-value-gt-MOST_TENTHS : goal.returns-then-value-gt-MOST_TENTHS
returns-then-value-gt-MOST_TENTHS c =
    let ds = c.args.whole.now ++ c.args.fraction.now in
    let turn = leading-turn ds c.loop-place.place c.loop-place.value c.from.result c.loop-place.invariant.0 (c.from.ensures ∙ c.digit_at.ensures.value) in
    sym (up_to_limit-over ds (c.loop-place.place + 1) c.args.places 18000000004 (omega arith) (omega (arith, turn)))

pub loop-place-preserved : goal.loop-place-preserved
loop-place-preserved c =
    let ds = c.args.whole.now ++ c.args.fraction.now in
    (leading-turn ds c.loop-place.place c.loop-place.value c.from.result c.loop-place.invariant.0 (c.from.ensures ∙ c.digit_at.ensures.value), omega arith)
