use Rattle.std.proofs.Common.{map}
use Rattle.mds_desk.specs.Desk.{state_of}
use Rattle.journal_recovery.proofs.Learning.{LearntSoFar}
use Rattle.journal_recovery.proofs.replay.learn_all.Given as goal

abbrev pub invariant-loop-place : goal.invariant-loop-place
invariant-loop-place g l = LearntSoFar l.note l.place (map state_of l.fn.desks) (map state_of l.desks)
