use Rattle.std.proofs.Common.{◌≡◌, ◌-◌, ◌≤◌, true}
use Rattle.journal_remote.specs.Kept.{is_current}
use Rattle.journal_remote.specs.Passing.{Between, Goes}
use Rattle.journal_remote.proofs.Known.{Read}
use Rattle.journal_remote.proofs.fetch.fetch.Given as goal

-- the first chunks of the register at the beginning were read, or another owner has come
abbrev pub invariant-chunks : goal.invariant-chunks
invariant-chunks g l = record {
  goes : Between (g.E.Engine.register l.fn.engine) (g.E.Engine.register l.engine) (Goes (g.E.Engine.is_own l.fn.engine) (g.E.Engine.sends l.engine));
  chunks : Between (g.E.Engine.register l.fn.engine) (g.E.Engine.register l.engine) (λ k m.
      is_current l.fn.tenure.owner l.fn.tenure.head k ≡ true → Read l.fn.tenure.owner l.fn.tenure.head l.index l.bytes.items k m);
  sent : g.E.Engine.sends l.engine ≡ g.E.Engine.sends l.fn.engine;
  own : g.E.Engine.is_own l.engine ≡ g.E.Engine.is_own l.fn.engine;
  within : l.index ≤ l.fn.tenure.head.extent.chunks;
}

abbrev pub decreases-chunks : goal.decreases-chunks
decreases-chunks g l = l.fn.tenure.head.extent.chunks - l.index
