use Rattle.std.proofs.Common.{subst, sym, arith}
use Rattle.std.proofs.lemmas.Bool.Decides.{nat_tests}
use Rattle.mds_script.proofs.Written.{Wrote, wrote_more}
use Rattle.mds_script.proofs.write.write_all.Goals as goal

pub pieces-preserved : goal.pieces-preserved
pieces-preserved g c =
    let contents = g.W.Sink.contents in
    record {
      wrote = subst (Wrote (contents c.args.sink.now) (contents c.write.new.self) c.args.bytes.now) (sym c.split_at.ensures.back)
          (wrote_more (contents c.args.sink.now) (contents c.pieces.sink) (contents c.write.new.self) c.args.bytes.now c.pieces.rest.now c.in-Ok.count c.pieces.invariant.wrote c.in-Ok.ensures.bytes);
      unfailed = grind (arith, nat_tests, c.in-Ok.ensures.counted, c.pieces.invariant.unfailed);
    }
