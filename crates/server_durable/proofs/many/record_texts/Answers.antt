use Rattle.std.proofs.Common.{arith}
use Rattle.mds_request.specs.Request.{request_of}
use Rattle.server_durable.specs.Records.{record_by}
use Rattle.server_durable.proofs.Clients.{recordable_more, texts_more}
use Rattle.server_durable.proofs.many.record_texts.Goals as goal

pub loop-request-preserved : goal.loop-request-preserved
loop-request-preserved c = record {
  records = texts_more request_of (λ text. text.items) (record_by c.args.client.now) c.args.requests.now c.loop-request.request-index c.request-item.result
      c.loop-request.texts.items c.push_reserved.new.self.items c.in_ok-text.text (omega arith) (cc) c.push_reserved.ensures.items
      c.loop-request.invariant.records c.in_ok-text.ensures.text;
  within = recordable_more request_of c.args.requests.now c.loop-request.request-index c.request-item.result (omega arith) (cc)
      c.loop-request.invariant.within c.in_ok-text.ensures.within;
  each = grind arith;
  room = omega arith;
}
