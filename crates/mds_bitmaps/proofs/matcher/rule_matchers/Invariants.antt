use Rattle.std.proofs.Common.{◌≡◌, map, take}
use Rattle.mds_policy.specs.Policy.{rule_document}
use Rattle.mds_match.specs.Row.{Row}
use Rattle.mds_bitmaps.specs.Masks.{matches}
use Rattle.mds_bitmaps.specs.Masked.{masked_matches}
use Rattle.mds_bitmaps.proofs.matcher.rule_matchers.Given as goal

-- the rules so far
abbrev pub invariant-loop-rule : goal.invariant-loop-rule
invariant-loop-rule g l =
    (row : Row) → map (masked_matches row) l.masked.items ≡ map (λ r. matches (g.P.Places.polygons l.places) row (rule_document r)) (take l.rule-index l.rules)
