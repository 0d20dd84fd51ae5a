use Rattle.std.proofs.Common.{refl, ◌∙◌, arith}
use Rattle.journal_remote.proofs.below.read_below.Goals as goal

pub chunks-init : goal.chunks-init
chunks-init g c = record { sent = refl; own = refl; within = omega arith }

pub chunks-preserved : goal.chunks-preserved
chunks-preserved g c = record {
  sent = c.read_chunks.ensures.sent ∙ c.chunks.invariant.sent;
  own = c.read_chunks.ensures.own ∙ c.chunks.invariant.own;
  within = omega (arith, c.in_ok-count.ensures.most, c.chunks.invariant.within);
}
