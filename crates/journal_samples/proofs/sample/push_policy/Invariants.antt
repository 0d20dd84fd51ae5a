use Rattle.std.proofs.Common.{◌≡◌, ◌++◌, map, drop}
use Rattle.std.specs.List.{enumerate_from}
use Rattle.mds_verdict.specs.Verdict.{verdict_document}
use Rattle.journal_samples.specs.Samples.{policy_samples, rule_sample}
use Rattle.journal_samples.proofs.sample.push_policy.Given as goal

-- the samples so far, and those of the verdicts that are left, are all
abbrev pub invariant-loop-number : goal.invariant-loop-number
invariant-loop-number l = l.found.items ++ map (rule_sample l.at l.policy) (enumerate_from l.number (map verdict_document (drop l.number l.verdicts)))
    ≡ l.fn.found.items ++ policy_samples l.at l.policy (map verdict_document l.verdicts)
