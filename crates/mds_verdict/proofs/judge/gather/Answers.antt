use Rattle.std.proofs.Common.{◌≡◌, ◌<◌, ◌≤◌, ◌^◌, map, take, length, Bor, subst, sym, ap, ◌∙◌, arith}
use Rattle.std.proofs.lemmas.List.{length-map, length-take-le}
use Rattle.mds_policy.specs.Policy.{policy_document}
use Rattle.mds_match.specs.Row.{row_of}
use Rattle.mds_match.specs.declared.vehicle.Vehicle.{Vehicle}
use Rattle.mds_verdict.specs.Gathered.{IsTally}
use Rattle.mds_verdict.proofs.Counting.{rows_more}
use Rattle.mds_verdict.proofs.judge.gather.Goals as goal

pub loop-vehicle-init : goal.loop-vehicle-init
loop-vehicle-init g c = c.in_ok-tally.ensures (g.P.Places.polygons c.args.places.now) c.args.moment

pub count-requires : goal.count-requires
count-requires g c =
    let rows = map (λ (v : Bor Vehicle). row_of v.now) (take c.loop-vehicle.vehicle-index c.args.vehicles.now) in
    let few : length c.args.vehicles.now < 2 ^ 63 = omega arith in (
      g.P.Places.polygons c.args.places.now,
      rows,
      c.args.local,
      c.first.ensures ∙ c.in_ok-resolved.ensures (row_of c.vehicle-item.result.now),
      c.loop-vehicle.invariant,
      omega (arith, few, length-map (take c.loop-vehicle.vehicle-index c.args.vehicles.now) (λ (v : Bor Vehicle). row_of v.now), length-take-le c.loop-vehicle.vehicle-index c.args.vehicles.now (omega arith)),
    )

pub loop-vehicle-preserved : goal.loop-vehicle-preserved
loop-vehicle-preserved g c =
    let policy = policy_document c.args.policy.now in
    let polygons = g.P.Places.polygons c.args.places.now in
    let rows = map (λ (v : Bor Vehicle). row_of v.now) (take c.loop-vehicle.vehicle-index c.args.vehicles.now) in
    subst (λ rs. IsTally c.count.new.self policy polygons rs c.args.local c.args.moment)
    (sym (rows_more (λ (v : Bor Vehicle). row_of v.now) c.args.vehicles.now c.loop-vehicle.vehicle-index c.vehicle-item.result (omega arith) c.vehicle-item.is))
    (c.in_ok-count.ensures polygons rows c.args.local (c.first.ensures ∙ c.in_ok-resolved.ensures (row_of c.vehicle-item.result.now)) c.loop-vehicle.invariant)
