use Rattle.std.proofs.Common.{◌≡◌, ◌<◌, ◌^◌, map, length, Bor, subst, sym, ap, ◌∙◌, arith}
use Rattle.std.proofs.lemmas.List.{length-map}
use Rattle.mds_policy.specs.Policy.{policy_document}
use Rattle.mds_match.specs.Row.{Row, row_of}
use Rattle.mds_match.specs.declared.vehicle.Vehicle.{Vehicle}
use Rattle.mds_verdict.specs.Gathered.{IsTally}
use Rattle.mds_verdict.specs.Verdict.{verdicts}
use Rattle.mds_verdict.proofs.Measures.{measures_fit, verdicts_at_most}
use Rattle.mds_parallel.specs.Chunks.{AreTallies}
use Rattle.mds_parallel.proofs.chunked.by_threads.Goals as goal

abbrev row : Bor Vehicle → Row
row v = row_of v.now

pub tallies-requires-clause-resolved : goal.tallies-requires-clause-resolved
tallies-requires-clause-resolved g c κs inside = (g.P.Places.polygons c.args.places.now, c.in_ok-resolved.ensures)

pub join_tallies-requires : goal.join_tallies-requires
join_tallies-requires g c =
    let polygons = g.P.Places.polygons c.args.places.now in
    let policy = policy_document c.args.policy.now in
    let made = c.in_ok-parts.ensures in
    let few : length c.args.vehicles.now < 2 ^ 63 = omega arith in (
      polygons,
      made.0,
      c.args.at.now.moment,
      subst (AreTallies policy polygons made.0 c.args.at.now.local c.args.at.now.moment) (sym c.deref.ensures.value) (made.2 polygons c.in_ok-resolved.ensures),
      omega (arith, few, ap length made.1, length-map c.args.vehicles.now row),
    )

pub returns-clause-exact : goal.returns-clause-exact
returns-clause-exact g c =
    let polygons = g.P.Places.polygons c.args.places.now in
    let policy = policy_document c.args.policy.now in
    let made = c.in_ok-parts.ensures in
    c.verdicts.ensures policy polygons (map row c.args.vehicles.now) c.args.at.now.local c.args.at.now.moment
    (subst (λ rows. IsTally c.in_ok-tally.tally policy polygons rows c.args.at.now.local c.args.at.now.moment) made.1
    (c.in_ok-tally.ensures polygons made.0 c.args.at.now.moment
    (subst (AreTallies policy polygons made.0 c.args.at.now.local c.args.at.now.moment) (sym c.deref.ensures.value) (made.2 polygons c.in_ok-resolved.ensures))))

pub returns-clause-fits : goal.returns-clause-fits
returns-clause-fits g c =
    let few : length c.args.vehicles.now < 2 ^ 63 = omega arith in
    let policy = policy_document c.args.policy.now in
    let polygons = g.P.Places.polygons c.args.places.now in
    let rows = map row c.args.vehicles.now in
    measures_fit (verdicts policy polygons rows c.args.at.now.local c.args.at.now.moment) (length rows) (2 ^ 63) _ (returns-clause-exact g c) (verdicts_at_most policy polygons rows rows c.args.at.now.local c.args.at.now.moment)
    (omega (arith, few, length-map c.args.vehicles.now row))
