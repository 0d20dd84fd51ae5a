use Rattle.std.proofs.Common.{arith}
use Rattle.mds_request.specs.Configuration.{configuration}
use Rattle.journal_entry.specs.Entries.{entry_of}
use Rattle.journal_recovery.specs.Recovery.{server_of}
use Rattle.journal_compaction.proofs.Asked.{told_more}
use Rattle.journal_compaction.proofs.replies.answer_questions.Goals as goal

pub loop-place-preserved : goal.loop-place-preserved
loop-place-preserved g c =
    told_more entry_of (configuration c.args.config.now) c.args.questions.now c.loop-place.place c.index-questions-place.result c.loop-place.replies.items
    c.push.new.self.items c.in_ok-reply.reply (server_of c.args.room.now c.args.desks.now) (server_of c.loop-place.room c.loop-place.desks)
    (server_of c.answer_question.new.room c.answer_question.new.desks) (omega (arith, c.loop-place-test.true)) c.index-questions-place.is c.in_ok-push.ensures.items
    c.loop-place.invariant c.in_ok-reply.ensures
