use denote.RattleType.{RattleType}
use denote.Exit.{no}
use denote.Param.{param}
use denote.Ref.{NamedLft}
use denote.Param.Send.{IsSend, sendable, param_send, arg_send}
use denote.Param.SendFields.{declared_send}
use Rattle.std.proofs.Crossing.{crosses}
use Rattle.mds_snapshot.specs.declared.history.OpeningName.{Ghosts}
use Rattle.mds_desk.proofs.Desks.{desk_send}
use Rattle.tests_server.specs.contracts.desk.overlapping.RunningDesk as RunningDesk
use Rattle.tests_server.proofs.desk.overlapping.run_and_publish.Goals as goal

-- a running desk may go to another thread: its desk is borrowed, and the flags are shared
running_send : (a : NamedLft) (K : RattleType) (g : Ghosts K.Denot) → IsSend (RunningDesk.the_row a K g)
running_send a K g = let d = desk_send K g in declared_send (RunningDesk.the_type a K g) (search (sendable, crosses) depth 20, (search (sendable, crosses) depth 20, tt))

pub run_concurrently-requires-send-E : goal.run_concurrently-requires-send-E
run_concurrently-requires-send-E g c κs within = param_send _ _ (arg_send _ no _ (running_send _ (param 0 g.row.K) g.K.OpeningName))
