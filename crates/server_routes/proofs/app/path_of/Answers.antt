use Rattle.std.proofs.Common.{sym}
use Rattle.mds_script.proofs.Positions.{word_found, word_missing}
use Rattle.mds_request.specs.Call.{is_query_mark}
use Rattle.server_routes.proofs.app.path_of.Goals as goal

pub returns-in-Some : goal.returns-in-Some
returns-in-Some c = word_found is_query_mark c.args.target.now c.in-Some.end (sym c.in-Some.ensures.value)

pub returns-in-None : goal.returns-in-None
returns-in-None c = word_missing is_query_mark c.args.target.now (sym c.in-None.ensures.value)
