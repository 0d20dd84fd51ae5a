use Rattle.std.proofs.Common.{map, ap, ◌∙◌}
use Rattle.journal_entry.specs.Entries.{entry_of, entry_text}
use Rattle.journal_folder.specs.Archives.{span_of}
use Rattle.journal_folder.proofs.Spans.{behind_first}
use Rattle.journal_folder.proofs.archive.span_in.Goals as goal

pub returns-in-Ok : goal.returns-in-Ok
returns-in-Ok c =
    let entries = c.in-Ok.entries.items in
    let texts = behind_first (λ t. t.items) entry_of entry_text c.args.texts.now c.in-Some.field-0-0.now c.in-Some.rest.now entries
    c.in-Some.ensures.cases.0 c.in-Ok.ensures.texts in
    (map entry_of entries, texts, c.span_of.ensures ∙ ap (λ es. span_of (map entry_of es)) c.deref.ensures.value)
