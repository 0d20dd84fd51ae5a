use Rattle.std.proofs.Common.{◌≡◌, true}
use Rattle.std.specs.Prelude.{◌⊎◌}
use Rattle.journal_register.specs.Register.{Message}
use Rattle.journal_remote.specs.Passing.{Between, Goes}
use Rattle.journal_remote.proofs.send.send.Given as goal

-- the register went on, and nothing but this was sent
abbrev pub invariant-tries : goal.invariant-tries
invariant-tries g l = record {
  goes : Between (g.E.Engine.register l.fn.engine) (g.E.Engine.register l.engine) (Goes (g.E.Engine.is_own l.fn.engine) (g.E.Engine.sends l.engine));
  sent : (m : Message) → g.E.Engine.sends l.engine m ≡ true → (m ≡ record { transaction = l.fn.transaction; bytes = l.fn.bytes }) ⊎ (g.E.Engine.sends l.fn.engine m ≡ true);
  own : g.E.Engine.is_own l.engine ≡ g.E.Engine.is_own l.fn.engine;
}
