use Rattle.std.proofs.Common.{◌≡◌, ℕ, ◌<◌, ◌≤◌, get_or, length}
use Rattle.mds_policy.specs.Policy.{rule_document}
use Rattle.mds_policy.specs.declared.rule.Rule as program
use Rattle.mds_verdict.specs.Gathered.{joined_rule}
use Rattle.mds_verdict.specs.Verdict.{verdict_document}
use Rattle.mds_verdict.specs.declared.verdict.RuleVerdict.{RuleVerdict}
use Rattle.mds_verdict.proofs.tally.join.Given as goal

-- the verdicts so far are joined, the others are unchanged
abbrev pub invariant-loop-place : goal.invariant-loop-place
invariant-loop-place l = record {
  long : length l.held ≡ length l.fn.held;
  before : (k : ℕ) (r : program.Rule) (v : RuleVerdict) → k < l.place → k < length l.fn.held
      → verdict_document (get_or l.held k v) ≡ joined_rule (rule_document (get_or l.rules k r)) (verdict_document (get_or l.fn.held k v)) (verdict_document (get_or l.later k v));
  after : (k : ℕ) (v : RuleVerdict) → l.place ≤ k → get_or l.held k v ≡ get_or l.fn.held k v;
}
