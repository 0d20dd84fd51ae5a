use Rattle.std.proofs.Common.{sym, ◌∙◌, arith}
use Rattle.mds_match.specs.Resolved.{meets_number}
use Rattle.mds_match.specs.Row.{row_of}
use Rattle.mds_match.proofs.Candidates.{found_at, not_found}
use Rattle.mds_match.proofs.resolved.ResolvedPolicy.first_among.Goals as goal

pub returns-then-is_met : goal.returns-then-is_met
returns-then-is_met c =
    sym (found_at (meets_number c.args.self.now (row_of c.args.vehicle.now)) c.args.numbers.now c.loop-number.number-index (omega arith) c.loop-number.invariant (sym c.is_met.ensures ∙ c.if-is_met.true))

pub loop-number-preserved : goal.loop-number-preserved
loop-number-preserved c =
    not_found (meets_number c.args.self.now (row_of c.args.vehicle.now)) c.args.numbers.now c.loop-number.number-index (omega arith) c.loop-number.invariant (sym c.is_met.ensures ∙ c.if-is_met.false)
