-- Matching rows with a policy that has the areas of its geographies looked up.
use Rattle.std.specs.Prelude.{◌≡◌, ℕ, Bool, ◌&&◌, List, map}
use Rattle.std.specs.List.{list_any}
use Rattle.mds_geometry.specs.Area.{area_holds}
use Rattle.mds_geometry.specs.declared.position.Position.{Position}
use Rattle.mds_policy.specs.Policy.{Policy, rule_document}
use Rattle.mds_match.specs.Resolved.{is_meant}
use Rattle.mds_match.specs.Row.{Row}
use Rattle.mds_bitmaps.specs.Masks.{matches}
use Rattle.mds_bitmaps.specs.declared.matcher.PolicyMatcher.{PolicyMatcher}
use Rattle.mds_bitmaps.specs.declared.matcher.RuleMatcher.{RuleMatcher}

-- a row matches a rule with its areas
abbrev pub masked_matches : Row → RuleMatcher → Bool
masked_matches row rule =
    rule.is_evaluated && list_any (λ area. area_holds area.now row.position) rule.areas.items && is_meant (rule_document rule.rule.now) row

-- for every row, its rules match as those of the policy do
abbrev pub IsMasked : PolicyMatcher → Policy → (List ℕ → List (List (List Position))) → Type 0
IsMasked masked policy polygons = (row : Row) → map (masked_matches row) masked.rules.items ≡ map (matches polygons row) policy.rules
