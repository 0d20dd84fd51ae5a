use Rattle.std.proofs.Common.{◌≡◌, refl, sym, ap, subst, ◌∙◌}
use Rattle.mds_request.specs.Call.{call_of}
use Rattle.mds_request.specs.Request.{request_of}
use Rattle.mds_desk.specs.Room.{room_of}
use Rattle.server_state.proofs.ListedTurns.{none_lost}
use Rattle.server_state.proofs.ListedRoomTurns.{RoomListed, room_turn_listed}
use Rattle.server_state.proofs.locks.HallRoom.carry_out.Goals as goal

pub carry_out-reply-requires : goal.carry_out-reply-requires
carry_out-reply-requires g c =
    let own = c.args.self.now.configured in
    let same = c.deref_mut.ensures.value in
    let its : (room_of c.deref_mut.result.now).configuration ≡ g.K.HallName.configuration =
    subst (λ room. (room_of room).configuration ≡ g.K.HallName.configuration) (sym same) own in
    record {
      resolved = ap (λ configuration. call_of configuration (request_of c.request-request.result)) its
          ∙ ap (λ request. call_of g.K.HallName.configuration request) c.request-request.ensures
          ∙ c.requires;
    }

pub returns-clause-replies : goal.returns-clause-replies
returns-clause-replies g c =
    let own = c.args.self.now.configured in
    let same = c.deref_mut.ensures.value in
    record {
      before = room_of c.deref_mut.result.now;
      after = room_of c.carry_out-reply.new.self;
      note = c.carry_out-reply.result.1;
      is_its = subst (λ room. (room_of room).configuration ≡ g.K.HallName.configuration) (sym same) own;
      turn = rw c.request-request.ensures at c.carry_out-reply.ensures.turn;
    }

pub returns-clause-listed : goal.returns-clause-listed
returns-clause-listed g c = λ kept. rw c.request-request.ensures at (c.add.ensures.added (none_lost g.K.HallName.configuration 0 c.args.self.now.is_lost c.add.result _ refl kept).1)

pub invariant_of-self-clause-listed : goal.invariant_of-self-clause-listed
invariant_of-self-clause-listed g c =
    let own = g.K.HallName.configuration in
    let r = c.args.self.now in
    let were = subst (λ room. ∥ RoomListed own r.is_lost r.turns.front.seen.log (room_of room) ∥₁) (sym c.deref_mut.ensures.value) r.listed in
    room_turn_listed own r.is_lost c.add.result _ r.turns.front.seen.log c.add.new.self.front.seen.log (request_of c.request-request.result) c.carry_out-reply.result.0
    c.carry_out-reply.result.1 (room_of c.deref_mut.result.now) (room_of c.carry_out-reply.new.self) were c.carry_out-reply.ensures.turn refl c.add.ensures.added
