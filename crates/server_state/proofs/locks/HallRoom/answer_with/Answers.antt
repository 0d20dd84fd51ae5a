use Rattle.std.proofs.Common.{◌≡◌, refl, sym, subst}
use Rattle.mds_request.specs.Request.{request_of}
use Rattle.mds_desk.specs.Room.{room_of}
use Rattle.server_state.proofs.ListedTurns.{none_lost}
use Rattle.server_state.proofs.ListedRoomTurns.{RoomListed, room_turn_listed}
use Rattle.server_state.proofs.locks.HallRoom.answer_with.Goals as goal

pub returns-clause-replies : goal.returns-clause-replies
returns-clause-replies g c =
    let own = c.args.self.now.configured in
    let same = c.deref_mut.ensures.value in
    record {
      before = room_of c.deref_mut.result.now;
      after = room_of c.answer_with-reply.new.self;
      note = c.answer_with-reply.result.1;
      is_its = subst (λ room. (room_of room).configuration ≡ g.K.HallName.configuration) (sym same) own;
      turn = rw c.request-request.ensures at c.answer_with-reply.ensures.turn;
    }

pub returns-clause-listed : goal.returns-clause-listed
returns-clause-listed g c = λ kept. rw c.request-request.ensures at (c.add.ensures.added (none_lost g.K.HallName.configuration 0 c.args.self.now.is_lost c.add.result _ refl kept).1)

pub invariant_of-self-clause-listed : goal.invariant_of-self-clause-listed
invariant_of-self-clause-listed g c =
    let own = g.K.HallName.configuration in
    let r = c.args.self.now in
    let were = subst (λ room. ∥ RoomListed own r.is_lost r.turns.front.seen.log (room_of room) ∥₁) (sym c.deref_mut.ensures.value) r.listed in
    room_turn_listed own r.is_lost c.add.result _ r.turns.front.seen.log c.add.new.self.front.seen.log (request_of c.request-request.result) c.answer_with-reply.result.0
    c.answer_with-reply.result.1 (room_of c.deref_mut.result.now) (room_of c.answer_with-reply.new.self) were c.answer_with-reply.ensures.turn refl c.add.ensures.added
