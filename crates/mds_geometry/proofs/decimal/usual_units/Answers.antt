use Rattle.std.proofs.Common.{arith, ◌≡◌, ◌∙◌, ◌++◌, ◌-◌, sym, ap, length}
use Rattle.std.proofs.lemmas.List.{length-drop, take-append-drop}
use Rattle.mds_geometry.proofs.Eights.{usual_is}
use Rattle.mds_geometry.proofs.decimal.usual_units.Goals as goal

pub returns : goal.returns
returns c =
    let rest = c.sign_of-negative.result.1.now in
    let w = c.in_ok-whole.whole.now in
    let t = c.in_ok-whole.fraction.now in
    let cases = c.in_ok-whole.ensures.cases in
    let joined : rest ≡ w ++ t = sym ((λ i. cases.0 i ++ cases.1 i) ∙ take-append-drop (length rest - 8) rest) in
    let long : length t ≡ 8 = omega (arith, ap length cases.1, length-drop (length rest - 8) rest, cases.2) in
    let few = c.in_ok-degrees.ensures in
    let seven = c.in_ok-decimals.ensures in
    usual_is c.args.text.now rest w t c.sign_of-negative.result.0 c.in_ok-degrees.degrees c.in_ok-decimals.decimals c.with_sign.result
    c.sign_of-negative.ensures.negative c.sign_of-negative.ensures.number joined long
    (record { whole = few.whole; count = few.count; few = few.few; value = few.value; small = few.small })
    seven.point
    (record { count = seven.count; value = seven.value; all = seven.all; small = seven.small })
    c.with_sign.ensures
