use Rattle.std.proofs.Common.{map, arith}
use Rattle.journal_entry.specs.Entries.{entry_of}
use Rattle.journal_compaction.proofs.Asked.{draft_more}
use Rattle.journal_compaction.proofs.questions.add_drafts.Goals as goal

pub loop-entry-preserved : goal.loop-entry-preserved
loop-entry-preserved c =
    draft_more entry_of c.args.at (map entry_of c.args.list.now.items) (map entry_of c.loop-entry.list.items) (map entry_of c.add_draft.new.list.items)
    c.args.entries.now c.loop-entry.entry-index c.entry-item.result (omega (arith, c.loop-entry-test.true)) c.entry-item.is c.loop-entry.invariant
    c.in_ok-add_draft.ensures
