use Rattle.std.proofs.Common.{map, subst}
use Rattle.mds_request.specs.Configuration.{configuration}
use Rattle.journal_entry.specs.Entries.{entry_of}
use Rattle.journal_recovery.specs.Laws.{IsStartedAgain}
use Rattle.journal_recovery.specs.Recovery.{server_of}
use Rattle.journal_compaction.specs.Replies.{AreTold}
use Rattle.journal_compaction.proofs.replies.replies.Goals as goal

pub returns-in-Ok-told : goal.returns-in-Ok-told
returns-in-Ok-told g c =
    let room = c.in-Ok.started.0 in
    let desks = c.in-Ok.started.1.items in
    let next = server_of c.answer_questions-told.new.room c.answer_questions-told.new.desks in (
      server_of room desks,
      next,
      subst (λ k. IsStartedAgain k (map entry_of c.args.entries.now) (server_of room desks)) c.requires.same c.in-Ok.ensures.started,
      subst (λ ds. AreTold (configuration c.args.config.now) (map entry_of c.args.questions.now) c.in-Ok-told.replies.items (server_of room ds) next)
          c.deref_mut.ensures.value c.in-Ok-told.ensures,
    )
