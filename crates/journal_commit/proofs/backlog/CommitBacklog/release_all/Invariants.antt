use Rattle.std.proofs.Common.{◌≡◌}
use Rattle.journal_commit.proofs.backlog.CommitBacklog.release_all.Given as goal

-- what waits stays
abbrev pub invariant-loop-text : goal.invariant-loop-text
invariant-loop-text g l = l.self.queue ≡ l.fn.self.queue
