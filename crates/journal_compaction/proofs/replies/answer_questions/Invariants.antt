use Rattle.std.proofs.Common.{map, take}
use Rattle.mds_request.specs.Configuration.{configuration}
use Rattle.journal_entry.specs.Entries.{entry_of}
use Rattle.journal_recovery.specs.Recovery.{server_of}
use Rattle.journal_compaction.specs.Replies.{AreTold}
use Rattle.journal_compaction.proofs.replies.answer_questions.Given as goal

-- the questions so far are answered
abbrev pub invariant-loop-place : goal.invariant-loop-place
invariant-loop-place g l =
    AreTold (configuration l.config) (map entry_of (take l.place l.questions)) l.replies.items (server_of l.fn.room l.fn.desks) (server_of l.room l.desks)
