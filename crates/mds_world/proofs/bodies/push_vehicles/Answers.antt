use Rattle.std.proofs.Common.{◌≡◌, ◌+◌, [], ◌++◌, ◌∷◌, map, take, ap, sym, ◌∙◌, append_assoc}
use Rattle.std.specs.List.{flat_map, join_with_byte}
use Rattle.std.proofs.lemmas.List.{take_all, take_more}
use Rattle.mds_text.specs.Printed.{printed}
use Rattle.mds_match.specs.Row.{row_of}
use Rattle.mds_machine.specs.Bodies.{vehicle_json}
use Rattle.mds_world.proofs.Joined.{joined_bytes}
use Rattle.mds_world.proofs.Vehicles.{one_more}
use Rattle.mds_world.proofs.bodies.push_vehicles.Goals as goal

pub returns : goal.returns
returns c =
    let first = printed (vehicle_json (row_of c.in-Some.first.now.now)) in
    let rest = map (λ v. printed (vehicle_json (row_of v.now))) c.in-Some.rest.now in
    let old = c.args.body.now.items in
    c.loop-vehicle.invariant
    ∙ ap (λ vs. c.push_vehicle.new.body.items ++ flat_map (λ t. 44 ∷ t) (map (λ v. printed (vehicle_json (row_of v.now))) vs)) (take_all c.loop-vehicle.vehicle-index c.in-Some.rest.now c.loop-vehicle-test.false)
    ∙ ap (λ bytes. bytes ++ flat_map (λ t. 44 ∷ t) rest) c.in_ok-push_vehicle.ensures
    ∙ append_assoc old first (flat_map (λ t. 44 ∷ t) rest)
    ∙ ap (λ bytes. old ++ bytes) (sym (joined_bytes first rest))
    ∙ ap (λ vs. old ++ join_with_byte 44 (map (λ v. printed (vehicle_json (row_of v.now))) vs)) (sym c.in-Some.ensures.cases.0)

pub loop-vehicle-preserved : goal.loop-vehicle-preserved
loop-vehicle-preserved c =
    let rest = c.in-Some.rest.now in
    let i = c.loop-vehicle.vehicle-index in
    let more : take (i + 1) rest ≡ take i rest ++ (c.vehicle-item.result ∷ []) =
    sym (ap (λ v. take i rest ++ (v ∷ [])) c.vehicle-item.is ∙ sym (take_more rest i c.vehicle-item.result c.loop-vehicle-test.true)) in
    one_more (λ v. printed (vehicle_json (row_of v.now))) c.push_vehicle.new.body.items c.loop-vehicle.body.items c.push.new.self.items c.push_vehicle-in-loop-vehicle.new.body.items
    (take i rest) (take (i + 1) rest) c.vehicle-item.result c.loop-vehicle.invariant c.in_ok-push.ensures.items c.in_ok-push_vehicle-2.ensures more
