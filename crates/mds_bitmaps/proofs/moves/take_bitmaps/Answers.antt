use Rattle.std.proofs.Common.{arith}
use Rattle.mds_bitmaps.proofs.moves.take_bitmaps.Goals as goal

pub returns : goal.returns
returns c = record {
  long = c.loop-column.auto.columns;
  policies = c.loop-column.invariant.policies;
  seen = c.loop-column.invariant.seen;
  masks = λ k d within. c.loop-column.invariant.before k d (omega arith) within;
}
