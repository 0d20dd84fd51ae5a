use Rattle.std.proofs.Common.{arith}
use Rattle.mds_desk.specs.Desk.{state_of}
use Rattle.mds_desk.proofs.Running.{turn}
use Rattle.mds_desk.proofs.desk.Desk.run.Goals as goal

pub loop-request-preserved : goal.loop-request-preserved
loop-request-preserved g c = record {
  run = turn (state_of c.args.self.now) (state_of c.loop-request.self) (state_of c.answer-answer.new.self) c.args.requests.now c.loop-request.request-index c.request-item.result
      c.loop-request.answers.items c.push_reserved.new.self.items c.answer-answer.result (omega arith) (cc)
      c.push_reserved.ensures.items c.loop-request.invariant.run c.answer-answer.ensures;
  each = grind arith;
  room = omega arith;
}
