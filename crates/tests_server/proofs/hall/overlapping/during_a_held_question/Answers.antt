use denote.RattleType.{RattleType}
use denote.Exit.{no}
use denote.Param.{param, copied}
use denote.Ref.{NamedLft}
use denote.Param.Send.{IsSend, IsSync, sendable, param_send, arg_send}
use denote.Param.SendFields.{declared_send}
use Rattle.std.proofs.Crossing.{crosses, send}
use Rattle.mds_snapshot.specs.declared.history.OpeningName.{Ghosts}
use Rattle.server_state.specs.declared.hall_name.HallName.{Ghosts as Names}
use Rattle.server_state.proofs.Halls.{hall_sync}
use Rattle.tests_server.specs.contracts.hall.overlapping.HeldQuestion as HeldQuestion
use Rattle.tests_server.proofs.hall.overlapping.during_a_held_question.Goals as goal

-- a question may go to another thread: the runtime, the hall and the flags are shared
question_send : (a : NamedLft) (K R : RattleType) (n : Names K.Denot) (g : Ghosts K.Denot) → IsSync R → IsSend (HeldQuestion.the_row a K R n g)
question_send a K R n g r =
    let h = hall_sync K n g in
    declared_send (HeldQuestion.the_type a K R n g) (search (sendable, crosses) depth 20, (send, (search (sendable, crosses) depth 20, (search (sendable, crosses) depth 20, tt))))

pub run_concurrently-held-requires-send-E : goal.run_concurrently-held-requires-send-E
run_concurrently-held-requires-send-E g c κs within = param_send _ _ (arg_send _ no _ (question_send _ (param 0 g.row.K) (copied 1 g.row.R) g.K.HallName g.K.OpeningName c.type_bounds.sync-R))
