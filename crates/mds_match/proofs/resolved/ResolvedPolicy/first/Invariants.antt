use Rattle.std.proofs.Common.{◌≡◌, ℕ, ◌<◌, false, get_or}
use Rattle.mds_match.specs.Resolved.{resolved_meets}
use Rattle.mds_match.specs.Row.{row_of}
use Rattle.mds_match.specs.declared.resolved.ResolvedRule.{ResolvedRule}
use Rattle.mds_match.proofs.resolved.ResolvedPolicy.first.Given as goal

-- no rule so far is met
abbrev pub invariant-loop-number : goal.invariant-loop-number
invariant-loop-number l = (k : ℕ) (d : ResolvedRule) → k < l.number → resolved_meets (get_or l.rule-items k d) (row_of l.vehicle) ≡ false
