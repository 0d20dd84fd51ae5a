use Rattle.std.proofs.Common.{arith}
use Rattle.mds_desk.specs.Desk.{state_of}
use Rattle.journal_recovery.proofs.Learning.{learn_more}
use Rattle.journal_recovery.proofs.replay.learn_all.Goals as goal

pub loop-place-preserved : goal.loop-place-preserved
loop-place-preserved g c =
    learn_more state_of c.args.note.now c.loop-place.place c.args.desks.now c.loop-place.desks c.index-desks-place.result c.learn.new.self
    c.loop-place.invariant (omega (arith, c.loop-place-test.true, c.loop-place.auto.desks)) c.learn.ensures
