-- A city and its service may be shared by threads, where the runtime handle, the evaluator and the clock may be, and
-- where reserved disk space may be passed to another thread. A pending response may be passed too.
use denote.RattleType.{RattleType}
use denote.Struct.Field.{row_field}
use denote.Param.Send.{IsSend, IsSync, sendable}
use denote.Param.SendFields.{as_row_send, as_row_sync, declared_send, declared_sync}
use Rattle.std.proofs.Crossing.{crosses, send, sync}
use Rattle.mds_snapshot.specs.declared.history.OpeningName.{Ghosts as Openings}
use Rattle.server_state.specs.declared.hall_name.HallName.{Ghosts as Names}
use Rattle.server_state.proofs.Halls.{hall_send, hall_sync}
use Rattle.server_app.proofs.operator_names.OperatorNames.TheSendSync as badges
use Rattle.journal_file.specs.declared.log.Log.{Ghosts as Logs}
use Rattle.journal_commit.specs.declared.history.LogName.{Ghosts as Books}
use Rattle.journal_commit.specs.declared.space.Space.{Ghosts as Spaces}
use Rattle.journal_commit.proofs.history.LogPosition.TheSendSync as stamp
use Rattle.journal_commit.proofs.commit_log.CommitLog.TheSendSync as keeper
use Rattle.server_durable.proofs.room_turn.author_log.AuthorLog.TheSendSync as authors
use Rattle.server_durable.proofs.desk_records.DeskRecords.TheSendSync as operators
use Rattle.server_durable.specs.contracts.durable_hall.DurableHall as DurableHall
use Rattle.server_durable.specs.contracts.service.DurableService as DurableService

module _ (K N L S : RattleType) (k : Names K.Denot) (o : Openings K.Denot) (n : Books N.Denot) (l : Logs L.Denot) (s : Spaces S.Denot) where
  pub city_send : IsSend S → IsSend (DurableHall.the_row K N L S k o n l s)
  city_send space =
      let ks = keeper.the_send N L S n l s space in
      let ky = keeper.the_sync N L S n l s space in
      let rs = authors.the_send K N L k o n l in
      let os = operators.the_send K N L k o n l in
      declared_send (DurableHall.the_type K N L S k o n l s) (hall_send K k o, (badges.the_send, (search (sendable, crosses) depth 20, (stamp.the_send N L n l, (search (sendable, crosses) depth 20, (search (sendable, crosses) depth 20, tt))))))

  pub city_sync : IsSend S → IsSync (DurableHall.the_row K N L S k o n l s)
  city_sync space =
      let ks = keeper.the_send N L S n l s space in
      let ky = keeper.the_sync N L S n l s space in
      let rs = authors.the_send K N L k o n l in
      let os = operators.the_send K N L k o n l in
      declared_sync (DurableHall.the_type K N L S k o n l s) (hall_sync K k o, (badges.the_sync, (search (sendable, crosses) depth 20, (stamp.the_sync N L n l, (search (sendable, crosses) depth 20, (search (sendable, crosses) depth 20, tt))))))

module _ (K N R E M L S : RattleType) (k : Names K.Denot) (o : Openings K.Denot) (n : Books N.Denot) (l : Logs L.Denot) (s : Spaces S.Denot) where
  pub reception_send : IsSend R → IsSend E → IsSend M → IsSend S → IsSend (DurableService.the_row K N R E M L S k o n l s)
  reception_send r e m space =
      declared_send (DurableService.the_type K N R E M L S k o n l s)
      (as_row_send (row_field R) r, (send, (city_send K N L S k o n l s space, (as_row_send (row_field E) e, (as_row_send (row_field M) m, tt)))))

  pub reception_sync : IsSync R → IsSync E → IsSync M → IsSend S → IsSync (DurableService.the_row K N R E M L S k o n l s)
  reception_sync r e m space =
      declared_sync (DurableService.the_type K N R E M L S k o n l s)
      (as_row_sync (row_field R) r, (sync, (city_sync K N L S k o n l s space, (as_row_sync (row_field E) e, (as_row_sync (row_field M) m, tt)))))
