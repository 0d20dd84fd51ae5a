use Rattle.std.proofs.Common.{List, sym, subst}
use Rattle.mds_desk.specs.Room.{room_of}
use Rattle.server_state.specs.TurnItem.{TurnItem}
use Rattle.server_state.specs.RoomTurns.{AreRoomTurnsOf}
use Rattle.server_state.proofs.ListedRoomTurns.{room_none_yet}
use Rattle.server_state.proofs.locks.HallRoom.new.Goals as goal

pub invariant_of-result-clause-listed : goal.invariant_of-result-clause-listed
invariant_of-result-clause-listed g c =
    let own = g.K.HallName.configuration in
    let none =
    subst (λ (items : List TurnItem). AreRoomTurnsOf own items (room_of c.args.room)) (sym c.requires.turns) (room_none_yet own (room_of c.args.room) c.requires.room) in
    ∣ (λ _. subst (λ room. AreRoomTurnsOf own c.args.turns.front.seen.log (room_of room)) (sym c.new_unchecked.ensures) none) ∣₁
