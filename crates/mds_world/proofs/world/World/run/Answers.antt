use Rattle.std.proofs.Common.{map, arith}
use Rattle.mds_request.specs.Request.{request_of}
use Rattle.mds_machine.specs.Step.{exchanges}
use Rattle.mds_machine.proofs.Histories.{list_keyed}
use Rattle.mds_machine.proofs.Isolated.{is_meant_throughout}
use Rattle.mds_machine.proofs.TwoWorlds.{is_isolated_throughout}
use Rattle.mds_world.specs.World.{state_of}
use Rattle.mds_world.proofs.Running.{turn, finished}
use Rattle.mds_world.proofs.world.World.run.Goals as goal

pub loop-request-preserved : goal.loop-request-preserved
loop-request-preserved g c = record {
  history = turn (state_of c.args.self.now) (state_of c.loop-request.self) (state_of c.answer-reply.new.self) c.args.requests.now c.loop-request.request-index c.request-item.result
      c.loop-request.replies.items c.push_reserved.new.self.items c.answer-reply.result (omega arith) (cc)
      c.loop-request.invariant.each c.push_reserved.ensures.items c.loop-request.invariant.history c.answer-reply.ensures.step;
  each = grind arith;
  room = omega arith;
}

pub returns-clause-isolation : goal.returns-clause-isolation
returns-clause-isolation g c =
    let w = state_of c.args.self.now in
    let next = state_of c.loop-request.self in
    is_isolated_throughout w next (exchanges (map request_of c.args.requests.now) c.loop-request.replies.items) (list_keyed c.args.self.now.drafts.items.items)
    (finished w next c.args.requests.now c.loop-request.request-index c.loop-request.replies.items (omega arith) (omega arith) c.loop-request.invariant.history)

pub returns-clause-meaning : goal.returns-clause-meaning
returns-clause-meaning g c =
    let w = state_of c.args.self.now in
    let next = state_of c.loop-request.self in
    is_meant_throughout w next (exchanges (map request_of c.args.requests.now) c.loop-request.replies.items) (list_keyed c.args.self.now.drafts.items.items)
    (finished w next c.args.requests.now c.loop-request.request-index c.loop-request.replies.items (omega arith) (omega arith) c.loop-request.invariant.history)
