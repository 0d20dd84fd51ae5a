use Rattle.std.proofs.Common.{◌≡◌}
use Rattle.journal_remote.specs.Passing.{Between, Goes}
use Rattle.journal_remote.proofs.send.look.Given as goal

-- the register went on, and nothing was sent
abbrev pub invariant-tries : goal.invariant-tries
invariant-tries g l = record {
  goes : Between (g.E.Engine.register l.fn.engine) (g.E.Engine.register l.engine) (Goes (g.E.Engine.is_own l.fn.engine) (g.E.Engine.sends l.engine));
  sent : g.E.Engine.sends l.engine ≡ g.E.Engine.sends l.fn.engine;
  own : g.E.Engine.is_own l.engine ≡ g.E.Engine.is_own l.fn.engine;
}
