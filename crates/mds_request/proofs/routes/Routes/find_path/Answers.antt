use Rattle.std.proofs.Common.{refl}
use Rattle.mds_request.proofs.Finding.{found_route, found_none}
use Rattle.mds_request.proofs.routes.Routes.find_path.Goals as goal

pub returns-in-Ok : goal.returns-in-Ok
returns-in-Ok c =
    found_route _ c.args.path.now _ c.get.result _ _ c.unwrap_or.result c.args.self.now.lead c.utf8.path c.in-Ok.ensures.found c.in-Ok.ensures.path c.get.ensures refl c.unwrap_or.ensures

pub returns-in-Err : goal.returns-in-Err
returns-in-Err c =
    (refl, found_none _ c.args.path.now c.args.self.now.lead c.utf8.path c.in-Err.ensures.missing)
