use Rattle.std.proofs.Common.{Ok, ap, sym, ◌∙◌}
use Rattle.mds_request.specs.Configuration.{configuration}
use Rattle.mds_request.specs.Request.{request_of}
use Rattle.mds_request.specs.declared.call.Call.TheVariants as call
use Rattle.mds_machine.proofs.Successes.{refused_leaves}
use Rattle.mds_world.specs.World.{state_of}
use Rattle.mds_world.proofs.Places.{placed}
use Rattle.mds_world.proofs.Settled.{stepped}
use Rattle.mds_world.proofs.world.World.answer.Goals as goal

pub operator_call-requires-clause-place : goal.operator_call-requires-clause-place
operator_call-requires-clause-place g c =
    placed (configuration c.args.self.now.config) (request_of c.args.request.now) c.in-Ok-Operator.place c.in-Ok-Operator.call
    (sym c.read_call.ensures ∙ c.in-Ok-Operator.is ∙ ap Ok c.in-Ok-Operator.field-0-is)

pub returns-in-Ok-Author-clause-refused : goal.returns-in-Ok-Author-clause-refused
returns-in-Ok-Author-clause-refused g c =
    let w = state_of c.args.self.now in
    let next = state_of c.author_call.new.self in
    let request = request_of c.args.request.now in
    refused_leaves w request c.author_call.result next
    (stepped w next request c.author_call.result (call.Author c.in-Ok-Author.call) (sym c.read_call.ensures ∙ c.in-Ok-Author.is ∙ ap Ok c.in-Ok-Author.field-0-is) c.author_call.ensures)

pub returns-in-Ok-Operator-clause-refused : goal.returns-in-Ok-Operator-clause-refused
returns-in-Ok-Operator-clause-refused g c =
    let w = state_of c.args.self.now in
    let next = state_of c.operator_call.new.self in
    let request = request_of c.args.request.now in
    refused_leaves w request c.operator_call.result next
    (stepped w next request c.operator_call.result (call.Operator c.in-Ok-Operator.place c.in-Ok-Operator.call) (sym c.read_call.ensures ∙ c.in-Ok-Operator.is ∙ ap Ok c.in-Ok-Operator.field-0-is) c.operator_call.ensures)
