use Rattle.std.proofs.Common.{◌≡◌, take}
use Rattle.journal_compaction.proofs.comparing.are_same.Given as goal

-- the answers so far are the same
abbrev pub invariant-loop-place : goal.invariant-loop-place
invariant-loop-place l = take l.place l.ones ≡ take l.place l.others
