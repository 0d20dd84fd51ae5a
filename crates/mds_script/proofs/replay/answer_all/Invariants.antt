use Rattle.std.proofs.Common.{◌≡◌, ◌-◌, List, ℕ}
use Rattle.std.specs.Io.KnownBytes.{Appends}
use Rattle.mds_script.specs.LineReading.{left, passed, Advances}
use Rattle.mds_script.proofs.Progress.{Ran}
use Rattle.mds_script.proofs.replay.answer_all.Given as goal
use Rattle.mds_script.specs.declared.lines.TheConstants.{INPUT_LIMIT}

abbrev pub invariant-turns : goal.invariant-turns
invariant-turns g l = record {
  progress : (output : List ℕ) × Ran g.M.Machine.step (left l.fn.reader (g.S.Source.remaining l.fn.source)) (left l.reader (g.S.Source.remaining l.source)) l.fn.machine l.machine output × Appends (g.W.Sink.contents l.fn.sink) (g.W.Sink.contents l.sink) output;
  advances : Advances (passed l.fn.reader) (left l.fn.reader (g.S.Source.remaining l.fn.source)) (passed l.reader) (left l.reader (g.S.Source.remaining l.source));
  read_on : g.S.Source.failures l.source ≡ g.S.Source.failures l.fn.source;
  written : g.W.Sink.failures l.sink ≡ g.W.Sink.failures l.fn.sink;
}

abbrev pub decreases-turns : goal.decreases-turns
decreases-turns g l = INPUT_LIMIT - passed l.reader
