use Rattle.mds_request.specs.Call.{is_query_mark}
use Rattle.mds_request.proofs.Paths.{before_found, before_none}
use Rattle.mds_request.proofs.routes.path_of.Goals as goal

pub returns-in-Some : goal.returns-in-Some
returns-in-Some c = before_found is_query_mark c.args.target.now c.in-Some.end c.in-Some.ensures.value

pub returns-in-None : goal.returns-in-None
returns-in-None c = before_none is_query_mark c.args.target.now c.in-None.ensures.value
