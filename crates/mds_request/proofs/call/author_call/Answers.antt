use Rattle.mds_request.proofs.Calls.{author_other}
use Rattle.mds_request.proofs.call.author_call.Goals as goal

pub returns-in-Other : goal.returns-in-Other
returns-in-Other c = author_other c.args.route c.args.id.now c.args.verb c.in-Other.is
