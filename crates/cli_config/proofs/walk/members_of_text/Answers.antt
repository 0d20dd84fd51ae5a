use Rattle.std.proofs.Common.{arith}
use Rattle.cli_config.proofs.Turns.{walk_on}
use Rattle.cli_config.proofs.walk.members_of_text.Goals as goal

pub loop-place-preserved : goal.loop-place-preserved
loop-place-preserved c =
    record {
      whole = walk_on c.args.text.now c.loop-place.walk c.after-walk.result c.args.marks.now c.loop-place.place _ _ _ _ _ (omega arith) c.in_ok-spot.ensures c.after-walk.ensures.value c.in_ok-add_member.ensures c.loop-place.invariant.whole;
      depth = omega (arith, c.after-walk.ensures.depth, c.loop-place.invariant.depth);
      number = omega (arith, c.after-walk.ensures.place, c.loop-place.invariant.number);
    }
