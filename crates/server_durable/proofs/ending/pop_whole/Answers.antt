use mathlib.Core.List.{IsPrefix}
use Rattle.std.proofs.Common.{rules, ◌≡◌, Bool, length, true, false, sym, subst, ◌∙◌, arith}
use Rattle.std.proofs.lemmas.List.{length-map}
use Rattle.std.specs.Mem.{manually_drop_value}
use Rattle.mds_desk.specs.Desk.{state_of}
use Rattle.mds_desk.specs.Room.{room_of}
use Rattle.server_durable.proofs.EndedHalls.{last_behind}
use Rattle.server_durable.proofs.ending.pop_whole.Goals as goal

pub returns-clause-ended : goal.returns-clause-ended
returns-clause-ended g c =
    λ yes.
    let ended = c.in-Some.ended in
    let is = c.in-Some.ensures in
    let records = c.into_inner-records.result in
    let left = length-map c.pop.new.self.desks.items (λ desk. desk.opening.front.seen.log) in
    let mine : records.place ≡ length c.pop.new.self.desks.items = omega (arith, is.placed) in
    last_behind g.K.HallName.configuration (room_of (manually_drop_value c.args.end.now.room.room)).publications c.args.all.now g.N.LogName.client_of _ _
    ended.opening.front.seen.log ended.turns.front.seen.log (state_of ended.desk) ended.turns.place records.place c.requires is.opening
    (is.place ∙ sym left) (mine ∙ sym left) is.begins
    (subst (λ room. IsPrefix (state_of ended.desk).known (room_of (manually_drop_value room.room)).publications) is.room is.published)
    is.turns (c.are_whole.ensures yes)
