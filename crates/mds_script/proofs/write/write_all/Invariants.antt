use Rattle.std.proofs.Common.{◌≡◌, length}
use Rattle.mds_script.proofs.Written.{Wrote}
use Rattle.mds_script.proofs.write.write_all.Given as goal

abbrev pub invariant-pieces : goal.invariant-pieces
invariant-pieces g l = record {
  wrote : Wrote (g.W.Sink.contents l.fn.sink) (g.W.Sink.contents l.sink) l.fn.bytes l.rest;
  unfailed : g.W.Sink.failures l.sink ≡ g.W.Sink.failures l.fn.sink;
}

abbrev pub decreases-pieces : goal.decreases-pieces
decreases-pieces g l = length l.rest
