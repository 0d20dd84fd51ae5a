use Rattle.std.proofs.Common.{refl}
use Rattle.mds_request.proofs.Routed.{in_no_text}
use Rattle.mds_request.proofs.routes.Routes.find.Goals as goal

pub returns-in-Err : goal.returns-in-Err
returns-in-Err c =
    (refl, in_no_text c.args.target.now c.path_of.result.now c.path_of.ensures c.in-Err.ensures.cases.0)
