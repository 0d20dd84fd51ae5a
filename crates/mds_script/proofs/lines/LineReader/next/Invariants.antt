use Rattle.std.proofs.Common.{◌≡◌, ◌-◌}
use Rattle.mds_script.specs.LineReading.{held, passed, left}
use Rattle.mds_script.proofs.Reading.{Gathered}
use Rattle.mds_script.proofs.lines.LineReader.next.Given as goal
use Rattle.mds_script.specs.declared.lines.TheConstants.{INPUT_LIMIT}

abbrev pub invariant-pieces : goal.invariant-pieces
invariant-pieces g l = record {
  gathered : Gathered (left l.fn.self (g.S.Source.remaining l.fn.source)) (left l.self (g.S.Source.remaining l.source)) (passed l.fn.self) (passed l.self) (held l.self);
  unfailed : g.S.Source.failures l.source ≡ g.S.Source.failures l.fn.source;
}

abbrev pub decreases-pieces : goal.decreases-pieces
decreases-pieces g l = INPUT_LIMIT - l.self.total
