use Rattle.std.proofs.Common.{◌≡◌, map, take}
use Rattle.mds_policy.specs.Policy.{rule_document}
use Rattle.mds_match.specs.Matching.{meets}
use Rattle.mds_match.specs.Resolved.{resolved_meets}
use Rattle.mds_match.specs.Row.{Row}
use Rattle.mds_match.proofs.resolved.resolve_all.Given as goal

-- the rules so far
abbrev pub invariant-loop-rule : goal.invariant-loop-rule
invariant-loop-rule g l =
    (row : Row) → map (λ r. resolved_meets r row) l.resolved.items ≡ map (λ r. meets (rule_document r) (g.P.Places.polygons l.places) row l.local) (take l.rule-index l.rules)
