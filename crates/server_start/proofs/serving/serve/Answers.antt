use denote.Exit.{no}
use denote.Param.{param, copied}
use denote.Param.Send.{param_send, param_sync, arg_send, arg_sync}
use Rattle.mds_parallel.proofs.chunked.Chunked.TheSendSync as chunked
use Rattle.server_start.proofs.HallServices.{reception_send, reception_sync}
use Rattle.server_start.proofs.serving.serve.Goals as goal

pub serve_up_to-ended-requires-send-A : goal.serve_up_to-ended-requires-send-A
serve_up_to-ended-requires-send-A g c κs within =
    let r = c.type_bounds.send-R in
    param_send _ _ (arg_send _ no _ (reception_send (param 0 g.row.K) (copied 1 g.row.R) _ (param 2 g.row.M) g.K.HallName g.K.OpeningName r (chunked.the_send _ r) c.type_bounds.send-M))

pub serve_up_to-ended-requires-sync-A : goal.serve_up_to-ended-requires-sync-A
serve_up_to-ended-requires-sync-A g c κs within =
    let r = c.type_bounds.sync-R in
    param_sync _ _ (arg_sync _ no _ (reception_sync (param 0 g.row.K) (copied 1 g.row.R) _ (param 2 g.row.M) g.K.HallName g.K.OpeningName r (chunked.the_sync _ r) c.type_bounds.sync-M))
