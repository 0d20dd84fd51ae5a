use Rattle.std.proofs.Common.{inr, refl, ◌∙◌}
use Rattle.journal_register.specs.declared.outcome.Answer.TheVariants.{Missing}
use Rattle.journal_register.specs.Register.{Message}
use Rattle.journal_remote.specs.Passing.{Goes}
use Rattle.journal_remote.proofs.Passing.{between_itself, goes_nowhere, or_else, then_exchanges, then_silence, in_silence}
use Rattle.journal_remote.proofs.send.send.Goals as goal

pub tries-init : goal.tries-init
tries-init g c = record {
  goes = between_itself (g.E.Engine.register c.args.engine.now) (Goes (g.E.Engine.is_own c.args.engine.now) (g.E.Engine.sends c.args.engine.now))
      (λ k. goes_nowhere (g.E.Engine.is_own c.args.engine.now) (g.E.Engine.sends c.args.engine.now) k);
  sent = λ m e. inr e;
  own = refl;
}

pub tries-preserved : goal.tries-preserved
tries-preserved g c =
    let r = g.E.Engine.register in
    let sent : Message = record { transaction = c.args.transaction.now; bytes = c.args.bytes.now } in
    record {
      goes = then_silence (g.E.Engine.is_own c.args.engine.now) (g.E.Engine.is_own c.tries.engine)
          (g.E.Engine.sends c.tries.engine) (g.E.Engine.sends c.transact-answer.new.self) sent c.transact-answer.result
          (r c.args.engine.now) (r c.tries.engine) (r c.transact-answer.new.self)
          c.tries.invariant.own c.transact-answer.ensures.kept c.tries.invariant.goes c.in-Missing.is c.transact-answer.ensures.goes;
      sent = λ m e. or_else (c.transact-answer.ensures.sent m e) (c.tries.invariant.sent m);
      own = c.transact-answer.ensures.own ∙ c.tries.invariant.own;
    }

pub returns-in_default : goal.returns-in_default
returns-in_default g c =
    let r = g.E.Engine.register in
    let sent : Message = record { transaction = c.args.transaction.now; bytes = c.args.bytes.now } in
    record {
      goes = (
        c.transact-answer.result,
        c.outcome.ensures,
        then_exchanges (g.E.Engine.is_own c.args.engine.now) (g.E.Engine.is_own c.tries.engine)
            (g.E.Engine.sends c.tries.engine) (g.E.Engine.sends c.transact-answer.new.self) sent c.transact-answer.result
            (r c.args.engine.now) (r c.tries.engine) (r c.transact-answer.new.self)
            c.tries.invariant.own c.transact-answer.ensures.kept c.tries.invariant.goes c.transact-answer.ensures.goes,
      );
      sent = λ m e. or_else (c.transact-answer.ensures.sent m e) (c.tries.invariant.sent m);
      own = c.transact-answer.ensures.own ∙ c.tries.invariant.own;
    }

pub returns : goal.returns
returns g c =
    let r = g.E.Engine.register in
    let sent : Message = record { transaction = c.args.transaction.now; bytes = c.args.bytes.now } in
    record {
      goes = (
        Missing,
        refl,
        in_silence (g.E.Engine.is_own c.args.engine.now) (g.E.Engine.sends c.tries.engine) sent (r c.args.engine.now) (r c.tries.engine) c.tries.invariant.goes,
      );
      sent = c.tries.invariant.sent;
      own = c.tries.invariant.own;
    }
