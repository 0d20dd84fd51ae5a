use Rattle.std.proofs.Common.{◌≡◌, ◌-◌, ◌≤◌}
use Rattle.journal_remote.proofs.below.read_below.Given as goal

-- nothing was sent
abbrev pub invariant-chunks : goal.invariant-chunks
invariant-chunks g l = record {
  sent : g.E.Engine.sends l.engine ≡ g.E.Engine.sends l.fn.engine;
  own : g.E.Engine.is_own l.engine ≡ g.E.Engine.is_own l.fn.engine;
  within : l.index ≤ l.fn.head.extent.chunks;
}

abbrev pub decreases-chunks : goal.decreases-chunks
decreases-chunks g l = l.fn.head.extent.chunks - l.index
