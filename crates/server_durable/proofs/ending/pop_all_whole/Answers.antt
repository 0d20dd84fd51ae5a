use Rattle.std.proofs.Common.{◌≡◌, length, map, refl, subst, ◌∙◌, arith}
use Rattle.std.proofs.lemmas.List.{length-map}
use Rattle.std.specs.Mem.{manually_drop_value}
use Rattle.mds_desk.specs.Room.{room_of}
use Rattle.server_durable.specs.Journals.{AreEndedBehind}
use Rattle.server_durable.proofs.EndedHalls.{all_behind, none_behind, one_more_behind}
use Rattle.server_durable.proofs.ending.pop_all_whole.Goals as goal

pub desks-init : goal.desks-init
desks-init g c =
    (refl, none_behind g.K.HallName.configuration (room_of (manually_drop_value c.args.end.now.room.room)).publications c.args.all.now _)

pub desks-preserved : goal.desks-preserved
desks-preserved g c =
    let own = g.K.HallName.configuration in
    let here = map (λ desk. desk.opening.front.seen.log) c.pop_whole.new.end.desks.items in
    let before = map (λ desk. desk.opening.front.seen.log) c.desks.end.desks.items in (
      c.pop_whole.ensures.room ∙ c.desks.invariant.0,
      one_more_behind own (room_of (manually_drop_value c.args.end.now.room.room)).publications c.args.all.now here before _
          (subst (λ room. ∥ AreEndedBehind own (room_of (manually_drop_value room.room)).publications c.args.all.now here before ∥₁) c.desks.invariant.0
          (c.pop_whole.ensures.ended c.if-not-pop_whole.false))
          c.desks.invariant.1,
    )

pub returns : goal.returns
returns g c =
    λ _.
    let none : length c.desks.end.desks.items ≡ 0 = omega (arith, c.len.ensures, c.desks-test.false) in
    all_behind g.K.HallName.configuration (room_of (manually_drop_value c.args.end.now.room.room)).publications c.args.all.now _ _
    (length-map c.desks.end.desks.items (λ desk. desk.opening.front.seen.log) ∙ none) c.desks.invariant.1
