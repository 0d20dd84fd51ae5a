use Rattle.std.proofs.Common.{◌≡◌, ◌++◌, ◌∷◌, map, take}
use Rattle.std.specs.List.{flat_map}
use Rattle.mds_text.specs.Printed.{printed}
use Rattle.mds_match.specs.Row.{row_of}
use Rattle.mds_machine.specs.Bodies.{vehicle_json}
use Rattle.mds_world.proofs.bodies.push_vehicles.Given as goal

-- those so far, each after a comma
abbrev pub invariant-loop-vehicle : goal.invariant-loop-vehicle
invariant-loop-vehicle l =
    l.body.items ≡ l.initial.body.items ++ flat_map (λ t. 44 ∷ t) (map (λ v. printed (vehicle_json (row_of v.now))) (take l.vehicle-index l.rest))
