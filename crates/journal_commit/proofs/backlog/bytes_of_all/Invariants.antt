use Rattle.std.proofs.Common.{◌≤◌}
use Rattle.journal_commit.specs.declared.reserved_space.TheConstants.{STEP}
use Rattle.journal_commit.proofs.backlog.bytes_of_all.Given as goal

-- the sum so far is within what is reserved on the disk at once
abbrev pub invariant-loop-text : goal.invariant-loop-text
invariant-loop-text l = l.bytes ≤ STEP
