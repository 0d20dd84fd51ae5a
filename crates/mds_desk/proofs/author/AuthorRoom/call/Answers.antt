use Rattle.std.proofs.Common.{◌≡◌, Ok}
use Rattle.mds_request.specs.Call.{call_of}
use Rattle.mds_request.specs.Configuration.{configuration}
use Rattle.mds_request.specs.Request.{request_of}
use Rattle.mds_request.specs.declared.call.Call.TheVariants.{Operator}
use Rattle.mds_desk.proofs.Resolved.{operator_in_room}
use Rattle.mds_desk.proofs.author.AuthorRoom.call.Goals as goal

pub returns-in-Ok-Operator-clause-refused : goal.returns-in-Ok-Operator-clause-refused
returns-in-Ok-Operator-clause-refused g c =
    let configured = configuration c.args.self.now.config.value in
    let request = request_of c.args.request.now in
    let resolved : call_of configured request ≡ Ok (Operator c.in-Ok-Operator.field-0-0 c.in-Ok-Operator.field-0-1) = cc in
    operator_in_room configured request c.in-Ok-Operator.field-0-0 c.in-Ok-Operator.field-0-1 resolved
