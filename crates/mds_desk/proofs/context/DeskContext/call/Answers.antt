use Rattle.std.proofs.Common.{◌≡◌, Ok}
use Rattle.mds_request.specs.Call.{call_of}
use Rattle.mds_request.specs.Configuration.{configuration}
use Rattle.mds_request.specs.Request.{request_of}
use Rattle.mds_request.specs.declared.call.Call.TheVariants.{Author, Operator}
use Rattle.mds_desk.proofs.Resolved.{author_elsewhere, operator_elsewhere}
use Rattle.mds_desk.proofs.context.DeskContext.call.Goals as goal

pub returns-else-client-self-clause-refused : goal.returns-else-client-self-clause-refused
returns-else-client-self-clause-refused g c =
    let configured = configuration c.args.self.now.config.value in
    let request = request_of c.args.request.now in
    let resolved : call_of configured request ≡ Ok (Operator c.in-Ok-Operator.client c.in-Ok-Operator.call) = cc in
    operator_elsewhere configured request c.args.self.now.place c.in-Ok-Operator.client c.in-Ok-Operator.call resolved c.if-client-self.false

pub returns-in-Ok-Author-clause-refused : goal.returns-in-Ok-Author-clause-refused
returns-in-Ok-Author-clause-refused g c =
    let configured = configuration c.args.self.now.config.value in
    let request = request_of c.args.request.now in
    let resolved : call_of configured request ≡ Ok (Author c.in-Ok-Author.field-0-0) = cc in
    author_elsewhere configured request c.args.self.now.place c.in-Ok-Author.field-0-0 resolved
