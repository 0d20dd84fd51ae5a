use Rattle.std.proofs.Common.{◌≡◌, ◌<◌, ◌≤◌, ◌^◌, map, take, length, Bor, subst, sym, ap, ◌∙◌, arith}
use Rattle.std.proofs.lemmas.List.{length-map, length-take-le, take_all}
use Rattle.mds_policy.specs.Policy.{policy_document}
use Rattle.mds_match.specs.Row.{Row, row_of}
use Rattle.mds_match.specs.declared.vehicle.Vehicle.{Vehicle}
use Rattle.mds_verdict.specs.Gathered.{IsTally}
use Rattle.mds_verdict.proofs.Counting.{rows_more}
use Rattle.mds_parallel.proofs.chunked.tally_of.Goals as goal

abbrev row : Bor Vehicle → Row
row v = row_of v.now

pub count-requires : goal.count-requires
count-requires c =
    let polygons = c.requires.0 in
    let rows = map row (take c.loop-vehicle.vehicle-index c.args.chunk.now) in
    let few : length c.args.chunk.now < 2 ^ 63 = omega arith in (
      polygons,
      rows,
      c.args.local,
      c.in_ok-number.ensures.exact ∙ c.requires.1 (row c.vehicle-item.result),
      c.loop-vehicle.invariant.counted polygons c.requires.1,
      omega (arith, few, length-map (take c.loop-vehicle.vehicle-index c.args.chunk.now) row, length-take-le c.loop-vehicle.vehicle-index c.args.chunk.now (omega arith)),
    )

pub returns : goal.returns
returns c polygons finds =
    subst (λ vehicles. IsTally c.loop-vehicle.tally (policy_document c.args.policy.now) polygons (map row vehicles) c.args.local c.args.moment)
    (take_all c.loop-vehicle.vehicle-index c.args.chunk.now (omega arith)) (c.loop-vehicle.invariant.counted polygons finds)
