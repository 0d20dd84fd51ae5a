use Rattle.std.proofs.Common.{Bool, sym, ap, ◌∙◌}
use Rattle.std.specs.List.{position}
use Rattle.mds_policy.specs.Policy.{Rule, rule_document}
use Rattle.mds_match.specs.Matching.{meets}
use Rattle.mds_match.specs.Resolved.{resolved_meets}
use Rattle.mds_match.specs.declared.resolved.ResolvedRule.{ResolvedRule}
use Rattle.mds_match.proofs.Mapped.{position-map}
use Rattle.mds_match.proofs.resolved.ResolvedPolicy.new.Goals as goal

pub returns : goal.returns
returns g c row =
    let same : Bool → Bool = λ b. b in
    let meet : Rule → Bool = λ rule. meets rule (g.P.Places.polygons c.args.places.now) row c.args.local in
    let resolved : ResolvedRule → Bool = λ rule. resolved_meets rule row in
    sym (position-map same resolved c.in_ok-rules.rules.items) ∙ ap (position same) (c.in_ok-rules.ensures row)
    ∙ position-map same (λ rule. meet (rule_document rule)) c.rules.result.now ∙ sym (position-map meet rule_document c.rules.result.now) ∙ ap (position meet) c.rules.ensures
