use Rattle.std.proofs.Common.{◌≡◌, ◌<◌, ◌^◌, map, length, Bor, arith}
use Rattle.std.proofs.lemmas.List.{length-map}
use Rattle.mds_policy.specs.Policy.{policy_document}
use Rattle.mds_match.specs.Row.{row_of}
use Rattle.mds_match.specs.declared.vehicle.Vehicle.{Vehicle}
use Rattle.mds_verdict.specs.Verdict.{verdicts}
use Rattle.mds_verdict.proofs.Measures.{measures_fit, verdicts_at_most}
use Rattle.mds_verdict.proofs.judge.evaluate_all.Goals as goal

pub returns-clause-exact : goal.returns-clause-exact
returns-clause-exact g c =
    c.verdicts.ensures (policy_document c.args.policy.now) (g.P.Places.polygons c.args.places.now) (map (λ (v : Bor Vehicle). row_of v.now) c.args.vehicles.now) c.args.local c.args.moment c.in_ok-tally.ensures

pub returns-clause-fits : goal.returns-clause-fits
returns-clause-fits g c =
    let few : length c.args.vehicles.now < 2 ^ 63 = omega arith in
    let policy = policy_document c.args.policy.now in
    let polygons = g.P.Places.polygons c.args.places.now in
    let rows = map (λ (v : Bor Vehicle). row_of v.now) c.args.vehicles.now in
    measures_fit (verdicts policy polygons rows c.args.local c.args.moment) (length rows) (2 ^ 63) _ (returns-clause-exact g c) (verdicts_at_most policy polygons rows rows c.args.local c.args.moment)
    (omega (arith, few, length-map c.args.vehicles.now (λ (v : Bor Vehicle). row_of v.now)))
