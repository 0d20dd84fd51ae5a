use Rattle.std.proofs.Common.{sym, ◌∙◌}
use Rattle.journal_folder.proofs.Behind.{behind_head}
use Rattle.journal_folder.proofs.startable.startable_entries.Goals as goal

pub returns : goal.returns
returns c =
    behind_head (λ v. v.items) c.args.bytes.now c.in_ok-texts.texts.items c.in-Some.head.now c.in-Some.rest.now c.lent_entries_in.result
    c.in_ok-texts.ensures (sym c.deref.ensures.value ∙ c.in-Some.ensures.cases.0) c.lent_entries_in.ensures
