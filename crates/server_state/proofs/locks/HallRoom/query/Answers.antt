use Rattle.std.proofs.Common.{◌≡◌, sym, subst}
use Rattle.std.specs.Mem.{manually_drop_value}
use Rattle.mds_desk.specs.Room.{room_of}
use Rattle.server_state.proofs.Turns.{of_ok}
use Rattle.server_state.proofs.locks.HallRoom.query.Goals as goal

pub returns-clause-tells : goal.returns-clause-tells
returns-clause-tells g c =
    let own = c.args.self.now.configured in
    let same : c.deref.result.now ≡ manually_drop_value c.args.self.now.room = cc in
    of_ok c.run_query.result (λ told tells.
    record {
      room = room_of c.deref.result.now;
      is_its = subst (λ room. (room_of room).configuration ≡ g.K.HallName.configuration) (sym same) own;
      tells = tells;
    }) c.run_query.ensures
