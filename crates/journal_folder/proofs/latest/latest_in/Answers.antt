use Rattle.std.proofs.Common.{map, ap, ◌∙◌}
use Rattle.journal_entry.specs.Entries.{entry_of, entry_text}
use Rattle.journal_folder.specs.Latest.{latest}
use Rattle.journal_folder.proofs.Spans.{behind_first}
use Rattle.journal_folder.proofs.latest.latest_in.Goals as goal

pub returns-in-Ok : goal.returns-in-Ok
returns-in-Ok c =
    let entries = c.in-Ok.entries.items in
    let texts = behind_first (λ t. t.now) entry_of entry_text c.args.texts.now c.in-Some.field-0-0.now c.in-Some.rest.now entries
    c.in-Some.ensures.cases.0 c.in-Ok.ensures in
    (map entry_of entries, texts, c.latest_moment.ensures ∙ ap (λ es. latest (map entry_of es)) c.deref.ensures.value)
