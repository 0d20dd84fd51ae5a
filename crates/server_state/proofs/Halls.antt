-- A hall may be shared by threads: its configuration and its routes are shared, and each desk, the author's room and
-- the latest note are behind locks.
use denote.RattleType.{RattleType}
use denote.Param.Send.{IsSend, IsSync, sendable}
use denote.Param.SendFields.{declared_send, declared_sync}
use Rattle.std.proofs.Crossing.{crosses}
use Rattle.mds_snapshot.specs.declared.history.OpeningName.{Ghosts}
use Rattle.mds_desk.proofs.Desks.{desk_send, room_send}
use Rattle.mds_desk.proofs.Routing.{routes_send, routes_sync}
use Rattle.mds_request.proofs.config.Config.TheSendSync as config
use Rattle.mds_snapshot.proofs.note.Note.TheSendSync as note
use Rattle.server_state.specs.declared.hall_name.HallName.{Ghosts as Names}
use Rattle.server_state.proofs.turn_list.TurnList.TheSendSync as list
use Rattle.server_state.proofs.turn_list.DeskTurns.TheSendSync as turns
use Rattle.server_state.proofs.room_turns.RoomTurnList.TheSendSync as room_list
use Rattle.server_state.proofs.room_turns.RoomTurns.TheSendSync as room_turns
use Rattle.server_state.specs.contracts.locks.HallDesk as HallDesk
use Rattle.server_state.specs.contracts.locks.DeskLock as DeskLock
use Rattle.server_state.specs.contracts.locks.HallRoom as HallRoom
use Rattle.server_state.specs.contracts.hall.Hall as Hall

module _ (K : RattleType) (n : Names K.Denot) (g : Ghosts K.Denot) where
  desk_crosses : IsSend (HallDesk.the_row K n g)
  desk_crosses =
      let d = desk_send K g in
      let t = list.the_send K n g in
      declared_send (HallDesk.the_type K n g) (search (sendable, crosses) depth 20, (search (sendable, crosses) depth 20, (search (sendable, crosses) depth 20, (search (sendable, crosses) depth 20, (search (sendable, crosses) depth 20, tt)))))

  room_crosses : IsSend (HallRoom.the_row K n g)
  room_crosses =
      let r = room_send K g in
      let t = room_list.the_send K n g in
      declared_send (HallRoom.the_type K n g) (search (sendable, crosses) depth 20, (search (sendable, crosses) depth 20, (search (sendable, crosses) depth 20, tt)))

  lock_send : IsSend (DeskLock.the_row K n g)
  lock_send =
      let d = desk_crosses in
      let t = turns.the_send K n g in
      declared_send (DeskLock.the_type K n g) (search (sendable, crosses) depth 20, (search (sendable, crosses) depth 20, (search (sendable, crosses) depth 20, tt)))

  lock_sync : IsSync (DeskLock.the_row K n g)
  lock_sync =
      let d = desk_crosses in
      let t = turns.the_sync K n g in
      declared_sync (DeskLock.the_type K n g) (search (sendable, crosses) depth 20, (search (sendable, crosses) depth 20, (search (sendable, crosses) depth 20, tt)))

  pub hall_send : IsSend (Hall.the_row K n g)
  hall_send =
      let cs = config.the_send in
      let cy = config.the_sync in
      let rs = routes_send in
      let ry = routes_sync in
      let d = lock_send in
      let r = room_crosses in
      let t = note.the_send K g in
      let o = room_turns.the_send K n g in
      declared_send (Hall.the_type K n g)
      (search (sendable, crosses) depth 20, (search (sendable, crosses) depth 20, (search (sendable, crosses) depth 20, (search (sendable, crosses) depth 20, (search (sendable, crosses) depth 20, (search (sendable, crosses) depth 20, tt))))))

  pub hall_sync : IsSync (Hall.the_row K n g)
  hall_sync =
      let cs = config.the_send in
      let cy = config.the_sync in
      let rs = routes_send in
      let ry = routes_sync in
      let d = lock_sync in
      let r = room_crosses in
      let t = note.the_send K g in
      let o = room_turns.the_sync K n g in
      declared_sync (Hall.the_type K n g)
      (search (sendable, crosses) depth 20, (search (sendable, crosses) depth 20, (search (sendable, crosses) depth 20, (search (sendable, crosses) depth 20, (search (sendable, crosses) depth 20, (search (sendable, crosses) depth 20, tt))))))
