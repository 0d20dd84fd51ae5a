use Rattle.std.proofs.Common.{◌≡◌, length, map}
use Rattle.std.specs.Mem.{manually_drop_value}
use Rattle.mds_desk.specs.Room.{room_of}
use Rattle.server_durable.specs.Journals.{AreEndedBehind}
use Rattle.server_durable.proofs.ending.pop_all_whole.Given as goal

-- the desks that were taken out are whole
abbrev pub invariant-desks : goal.invariant-desks
invariant-desks g l =
    (l.end.room ≡ l.fn.end.room)
    × ∥ AreEndedBehind g.K.HallName.configuration (room_of (manually_drop_value l.fn.end.room.room)).publications l.all
    (map (λ desk. desk.opening.front.seen.log) l.end.desks.items) (map (λ desk. desk.opening.front.seen.log) l.fn.end.desks.items) ∥₁

abbrev pub decreases-desks : goal.decreases-desks
decreases-desks g l = length l.end.desks.items
