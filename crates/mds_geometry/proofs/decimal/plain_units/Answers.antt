use Rattle.std.proofs.Common.{arith}
use Rattle.mds_geometry.proofs.Decimals.{some_units}
use Rattle.mds_geometry.proofs.decimal.plain_units.Goals as goal

pub returns : goal.returns
returns c =
    let whole = c.in_ok-degrees.ensures in
    let part = c.in_ok-decimals.ensures in
    some_units c.args.text.now c.sign_of-negative.result.1.now c.in_ok-degrees.fraction.now c.sign_of-negative.result.0 c.in_ok-degrees.degrees c.in_ok-decimals.decimals c.with_sign.result
    (omega arith) c.sign_of-negative.ensures.negative c.sign_of-negative.ensures.number whole.behind whole.whole whole.point part.some part.few part.all whole.value part.value c.with_sign.ensures
