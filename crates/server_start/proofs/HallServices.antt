-- A `HallService` may be shared by threads, where its runtime handle, its evaluator and its clock may
-- be.
use denote.RattleType.{RattleType}
use denote.Struct.Field.{row_field}
use denote.Param.Send.{IsSend, IsSync}
use denote.Param.SendFields.{as_row_send, as_row_sync, declared_send, declared_sync}
use Rattle.std.proofs.Crossing.{send, sync}
use Rattle.mds_snapshot.specs.declared.history.OpeningName.{Ghosts}
use Rattle.server_state.specs.declared.hall_name.HallName.{Ghosts as Names}
use Rattle.server_state.proofs.Halls.{hall_send, hall_sync}
use Rattle.server_start.specs.contracts.hall_service.HallService as HallService

module _ (K R E M : RattleType) (n : Names K.Denot) (g : Ghosts K.Denot) where
  pub reception_send : IsSend R → IsSend E → IsSend M → IsSend (HallService.the_row K R E M n g)
  reception_send r e m = declared_send (HallService.the_type K R E M n g) (as_row_send (row_field R) r, (send, (hall_send K n g, (as_row_send (row_field E) e, (as_row_send (row_field M) m, tt)))))

  pub reception_sync : IsSync R → IsSync E → IsSync M → IsSync (HallService.the_row K R E M n g)
  reception_sync r e m = declared_sync (HallService.the_type K R E M n g) (as_row_sync (row_field R) r, (sync, (hall_sync K n g, (as_row_sync (row_field E) e, (as_row_sync (row_field M) m, tt)))))
