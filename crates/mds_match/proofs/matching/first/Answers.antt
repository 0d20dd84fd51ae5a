use Rattle.std.proofs.Common.{Bool, sym, ap, ◌∙◌}
use Rattle.std.specs.List.{position}
use Rattle.mds_policy.specs.Policy.{Rule, rule_document}
use Rattle.mds_match.specs.Matching.{meets}
use Rattle.mds_match.specs.Row.{row_of}
use Rattle.mds_match.proofs.Mapped.{position-map}
use Rattle.mds_match.proofs.matching.first.Goals as goal

pub returns : goal.returns
returns g c =
    let meet : Rule → Bool = λ rule. meets rule (g.P.Places.polygons c.args.places.now) (row_of c.args.vehicle.now) c.args.local in
    c.first_of.ensures ∙ sym (position-map meet rule_document c.rules.result.now) ∙ ap (position meet) c.rules.ensures
