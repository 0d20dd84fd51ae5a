use Rattle.std.proofs.Common.{◌≡◌, ℕ, ◌+◌, ◌≤◌, true, List, ◌++◌, length}
use Rattle.journal_remote.specs.Kept.{is_current}
use Rattle.journal_remote.specs.Laid.{Lays, CompareNoLater}
use Rattle.journal_remote.specs.Passing.{Between}
use Rattle.journal_remote.proofs.group.put_group.Given as goal

-- the chunks so far stand behind the head, and their bytes and those left are all
abbrev pub invariant-chunks : goal.invariant-chunks
invariant-chunks g l = record {
  laid : (done : List ℕ) × (done ++ l.rest ≡ l.fn.bytes) × Between (g.E.Engine.register l.fn.engine) (g.E.Engine.register l.engine) (λ k m.
      is_current l.fn.tenure.owner l.fn.tenure.head k ≡ true → Lays l.fn.tenure.owner l.fn.tenure.head l.place done (g.E.Engine.sends l.engine) k m);
  no_later : CompareNoLater (g.E.Engine.sends l.engine) l.fn.tenure.owner l.fn.tenure.head;
  own : g.E.Engine.is_own l.engine ≡ g.E.Engine.is_own l.fn.engine;
  few : l.place + length l.rest ≤ length l.fn.bytes;
}

abbrev pub decreases-chunks : goal.decreases-chunks
decreases-chunks g l = length l.rest
