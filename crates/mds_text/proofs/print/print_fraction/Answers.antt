use Rattle.mds_text.proofs.Decimals.{decimals-turn, decimals-end, tenth_pos}
use Rattle.mds_text.proofs.print.print_fraction.Goals as goal

pub nonzero_div-rest : goal.nonzero_div-rest
nonzero_div-rest c =
    let before = c.loop-rest.invariant in
    tenth_pos before.0 c.loop-rest.unit c.loop-rest.rest c.loop-rest-test.true before.1 before.2

pub nonzero_rem-rest : goal.nonzero_rem-rest
nonzero_rem-rest c =
    let before = c.loop-rest.invariant in
    tenth_pos before.0 c.loop-rest.unit c.loop-rest.rest c.loop-rest-test.true before.1 before.2

pub loop-rest-preserved : goal.loop-rest-preserved
loop-rest-preserved c =
    let before = c.loop-rest.invariant in
    decimals-turn before.0 c.loop-rest.unit c.loop-rest.rest c.loop-rest.out.items c.push-in-loop-rest.new.self.items _ c.loop-rest-test.true before.1 before.2 c.in_ok-push-2.ensures.items before.3

pub returns : goal.returns
returns c =
    let before = c.loop-rest.invariant in
    decimals-end before.0 c.loop-rest.rest c.args.rest c.args.out.now.items c.push.new.self.items c.loop-rest.out.items c.loop-rest-test.false c.if-rest-eq0.false c.in_ok-push.ensures.items before.3
