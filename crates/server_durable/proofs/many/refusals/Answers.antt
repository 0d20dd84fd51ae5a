use Rattle.std.proofs.Common.{◌++◌, ◌∷◌, [], ap, ◌∙◌, arith}
use Rattle.mds_request.specs.Reply.{refused}
use Rattle.mds_request.specs.Request.{request_of}
use Rattle.server_durable.proofs.Reports.{refused_more}
use Rattle.server_durable.proofs.many.refusals.Goals as goal

pub loop-request-preserved : goal.loop-request-preserved
loop-request-preserved c = record {
  refusals = refused_more request_of (refused c.args.code) c.args.requests.now c.loop-request.request-index c.request-item.result
      c.loop-request.answers.items c.push_reserved.new.self.items (omega arith) (cc)
      (c.push_reserved.ensures.items ∙ ap (λ r. c.loop-request.answers.items ++ r ∷ []) c.from.ensures)
      c.loop-request.invariant.refusals;
  each = grind arith;
  room = omega arith;
}
