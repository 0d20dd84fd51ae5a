use Rattle.std.proofs.Common.{refl, ◌∙◌}
use Rattle.journal_remote.specs.Passing.{Goes}
use Rattle.journal_remote.proofs.Passing.{between_itself, goes_nowhere, same_sends, then_goes}
use Rattle.journal_remote.proofs.send.look.Goals as goal

pub tries-init : goal.tries-init
tries-init g c =
    let is_own = g.E.Engine.is_own c.args.engine.now in
    let sends = g.E.Engine.sends c.args.engine.now in
    record {
      goes = between_itself (g.E.Engine.register c.args.engine.now) (Goes is_own sends) (λ k. goes_nowhere is_own sends k);
      sent = refl;
      own = refl;
    }

pub tries-preserved : goal.tries-preserved
tries-preserved g c =
    let r = g.E.Engine.register in
    let sends = g.E.Engine.sends in
    let is_own = g.E.Engine.is_own in
    record {
      goes = then_goes (is_own c.args.engine.now) (is_own c.tries.engine) (sends c.tries.engine) (sends c.look.new.self)
          (r c.args.engine.now) (r c.tries.engine) (r c.look.new.self) c.tries.invariant.own
          (same_sends (sends c.tries.engine) (sends c.look.new.self) c.look.ensures.sent) c.tries.invariant.goes c.look.ensures.goes;
      sent = c.look.ensures.sent ∙ c.tries.invariant.sent;
      own = c.look.ensures.own ∙ c.tries.invariant.own;
    }

pub returns-in-Some-clause-goes : goal.returns-in-Some-clause-goes
returns-in-Some-clause-goes g c =
    let r = g.E.Engine.register in
    let sends = g.E.Engine.sends in
    let is_own = g.E.Engine.is_own in
    then_goes (is_own c.args.engine.now) (is_own c.tries.engine) (sends c.tries.engine) (sends c.look.new.self)
    (r c.args.engine.now) (r c.tries.engine) (r c.look.new.self) c.tries.invariant.own
    (same_sends (sends c.tries.engine) (sends c.look.new.self) c.look.ensures.sent) c.tries.invariant.goes c.look.ensures.goes
