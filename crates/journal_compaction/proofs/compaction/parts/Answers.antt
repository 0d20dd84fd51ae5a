use Rattle.journal_entry.specs.Entries.{entry_of, entry_text}
use Rattle.journal_compaction.proofs.Journals.{head_and_rest}
use Rattle.journal_compaction.proofs.compaction.parts.Goals as goal

pub returns-in-Ok-clause-journal : goal.returns-in-Ok-clause-journal
returns-in-Ok-clause-journal c =
    head_and_rest (λ t. t.items) entry_of entry_text c.args.texts.now c.in-Some.head.now c.in-Some.rest.now c.as_slice.result.now c.in-Ok.entries.items
    c.in-Some.ensures.cases.0 c.as_slice.ensures.value c.in-Ok.ensures.texts
