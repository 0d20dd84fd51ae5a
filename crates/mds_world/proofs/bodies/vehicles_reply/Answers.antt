use Rattle.std.proofs.Common.{◌++◌, codes, ap, map, ◌∙◌}
use Rattle.mds_match.specs.Row.{row_of}
use Rattle.mds_request.specs.Reply.{success}
use Rattle.mds_machine.specs.Bodies.{vehicles_json}
use Rattle.mds_world.proofs.Joined.{line_is}
use Rattle.mds_world.proofs.Vehicles.{vehicles_are}
use Rattle.mds_world.proofs.bodies.vehicles_reply.Goals as goal

pub ok-requires : goal.ok-requires
ok-requires c =
    line_is c.extend_from_slice-2.new.self.items (vehicles_json (map (λ v. row_of v.now) c.args.vehicles.now))
    (vehicles_are (λ v. row_of v.now) c.args.vehicles.now c.extend_from_slice.new.self.items c.push_vehicles.new.body.items c.extend_from_slice-2.new.self.items
    (c.in_ok-extend_from_slice.ensures.items ∙ ap (λ bytes. bytes ++ codes "{\"vehicles\":[") c.in_ok-body.ensures.items) c.in_ok-push_vehicles.ensures c.in_ok-extend_from_slice-2.ensures.items)

pub returns : goal.returns
returns c =
    c.ok.ensures ∙ ap success
    (vehicles_are (λ v. row_of v.now) c.args.vehicles.now c.extend_from_slice.new.self.items c.push_vehicles.new.body.items c.extend_from_slice-2.new.self.items
    (c.in_ok-extend_from_slice.ensures.items ∙ ap (λ bytes. bytes ++ codes "{\"vehicles\":[") c.in_ok-body.ensures.items) c.in_ok-push_vehicles.ensures c.in_ok-extend_from_slice-2.ensures.items)
