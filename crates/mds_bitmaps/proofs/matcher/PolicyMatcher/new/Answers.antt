use Rattle.std.proofs.Common.{sym, ap, map, ◌∙◌}
use Rattle.mds_policy.specs.Policy.{rule_document}
use Rattle.mds_bitmaps.specs.Masks.{matches}
use Rattle.mds_bitmaps.proofs.Split.{map-map}
use Rattle.mds_bitmaps.proofs.matcher.PolicyMatcher.new.Goals as goal

pub returns : goal.returns
returns g c row =
    let match = matches (g.P.Places.polygons c.args.places.now) row in
    c.in_ok-rules.ensures row ∙ sym (map-map match rule_document c.rules.result.now) ∙ ap (map match) c.rules.ensures
