use Rattle.std.proofs.Common.{arith}
use Rattle.mds_text.proofs.Strings.{string_len-mark, pair_turn, byte_turn, last_turn}
use Rattle.mds_text.proofs.quote.string_len.Goals as goal
use Rattle.mds_text.proofs.quote.string_len.Goals.{then-text-at-eq92+then-at-text, else-text-at-eq92, else-text-at-eq92-via-then-text-at-eq92+else-at-text, else-text-at-eq92-via-else-text-at-eq92}

pub returns-then-text-at-eq34-clause-value : goal.returns-then-text-at-eq34-clause-value
returns-then-text-at-eq34-clause-value c =
    let one = string_len-mark c.args.text.now c.loop-at.at c.loop-at-test.true c.if-text-at-eq34.true in omega (arith, c.loop-at.invariant.1)

pub loop-at-preserved : goal.loop-at-preserved
loop-at-preserved c =
    let s = c.args.text.now in
    let i = c.loop-at.at in
    let before = c.loop-at.invariant.1 in
    elim c.if-text-at-eq92.branch [
      | then-text-at-eq92+then-at-text w ↦ pair_turn s i _ _ w.at-is w.if-at-text.true w.if-text-at-eq92.true before
      | else-text-at-eq92 w ↦ elim w.else-text-at-eq92.branch [
        | else-text-at-eq92-via-then-text-at-eq92+else-at-text v ↦ last_turn s i _ _ w.at-is c.loop-at-test.true v.if-at-text.false before
        | else-text-at-eq92-via-else-text-at-eq92 v ↦ byte_turn s i _ _ w.at-is c.loop-at-test.true c.if-text-at-eq34.false v.if-text-at-eq92.false before
      ]
    ]
