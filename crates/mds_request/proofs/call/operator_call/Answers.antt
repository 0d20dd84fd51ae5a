use Rattle.mds_request.proofs.Calls.{operator_other}
use Rattle.mds_request.proofs.call.operator_call.Goals as goal

pub returns-in-Other : goal.returns-in-Other
returns-in-Other c = operator_other c.args.place c.args.route c.args.id.now c.args.verb c.in-Other.is
