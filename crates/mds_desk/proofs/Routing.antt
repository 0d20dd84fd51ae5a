-- The routes of the server may be shared by threads: a node of the router holds nodes, so it crosses by the law of its layer.
use denote.RattleType.{RattleType}
use denote.Param.Send.{IsSend, IsSync, sendable, view_send, view_sync}
use denote.Param.SendFields.{declared_send, declared_sync}
use Rattle.core.specs.declared.alloc.Allocator as alloc
use Rattle.std.proofs.Crossing.{crosses, send, sync, frees}
use Rattle.std_alloc.proofs.SendSync.{FreesAnywhere}
use Rattle.matchit.proofs.route.Route.TheSendSync as route
use Rattle.matchit.proofs.tree.Node.TheLaws.TheKnot as laws
use Rattle.matchit.specs.contracts.router.Router as Router
use Rattle.matchit.specs.contracts.router.Router.TheInside as RouterInside
use Rattle.matchit.specs.contracts.tree.Node as Node
use Rattle.slab.proofs.Slab.TheSendSync as slab
use Rattle.slab.specs.contracts.Slab as Slab
use Rattle.mds_request.proofs.routes.Route.TheSendSync as routed
use Rattle.mds_request.specs.contracts.routes.Route as Routed
use Rattle.mds_request.specs.contracts.routes.Routes as Routes

node_send : IsSend Node.the_row
node_send = search (sendable, crosses, laws.both_send-Node) depth 40

node_sync : IsSync Node.the_row
node_sync = search (sendable, crosses, laws.both_sync-Node) depth 40

-- the allocator's ghost members are found by how it frees
slab_sync : (T A : RattleType) (g : alloc.Ghosts A.Denot) → FreesAnywhere A.Denot g → IsSync T → IsSync A → IsSync (Slab.the_row T A g)
slab_sync T A g _ t a = slab.the_sync T A g t a

router_send : IsSend (Router.the_row Routed.the_row)
router_send =
    let r = route.the_send in
    view_send _ _ _ _ _
    (declared_send (RouterInside.the_type Routed.the_row)
    (send, (node_send, (search (sendable, crosses) depth 20, (slab.the_send _ _ _ routed.the_send send frees, (search (sendable, crosses) depth 20, tt))))))

router_sync : IsSync (Router.the_row Routed.the_row)
router_sync =
    let r = route.the_sync in
    view_sync _ _ _ _ _
    (declared_sync (RouterInside.the_type Routed.the_row)
    (sync, (node_sync, (search (sendable, crosses) depth 20, (slab_sync _ _ _ frees routed.the_sync sync, (search (sendable, crosses) depth 20, tt))))))

pub routes_send : IsSend Routes.the_row
routes_send = declared_send Routes.the_type (router_send, tt)

pub routes_sync : IsSync Routes.the_row
routes_sync = declared_sync Routes.the_type (router_sync, tt)
