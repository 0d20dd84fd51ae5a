use denote.Exit.{no}
use denote.Param.{param, copied}
use denote.Param.Send.{param_send, param_sync, arg_send, arg_sync}
use Rattle.mds_parallel.proofs.chunked.Chunked.TheSendSync as chunked
use Rattle.server_site.proofs.Sites.{site_send, site_sync}
use Rattle.ruffletuff.proofs.serving.serve_to_the_end.Goals as goal

pub serve_by-ended-requires-send-A : goal.serve_by-ended-requires-send-A
serve_by-ended-requires-send-A g c κs within =
    param_send _ _ (arg_send _ no _ (site_send _ (param 0 g.row.K) (param 1 g.row.N) (param 2 g.row.L) (param 3 g.row.S) (copied 4 g.row.R) _ (param 5 g.row.P)
    g.K.HallName g.K.OpeningName g.N.LogName g.L.Log g.S.Space c.type_bounds.send-R (chunked.the_send _ c.type_bounds.send-R) c.type_bounds.send-P c.type_bounds.send-S))

pub serve_by-ended-requires-sync-A : goal.serve_by-ended-requires-sync-A
serve_by-ended-requires-sync-A g c κs within =
    param_sync _ _ (arg_sync _ no _ (site_sync _ (param 0 g.row.K) (param 1 g.row.N) (param 2 g.row.L) (param 3 g.row.S) (copied 4 g.row.R) _ (param 5 g.row.P)
    g.K.HallName g.K.OpeningName g.N.LogName g.L.Log g.S.Space c.type_bounds.sync-R (chunked.the_sync _ c.type_bounds.sync-R) c.type_bounds.sync-P c.type_bounds.send-S))
