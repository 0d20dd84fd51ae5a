use Rattle.std.proofs.Common.{◌≡◌, ℕ, ◌∷◌, List, sym, ◌∙◌}
use Rattle.journal_entry.specs.Entries.{entry_of}
use Rattle.journal_entry.proofs.Spelled.{same_fields, same_entry, same_head}
use Rattle.journal_entry.proofs.decoding.read_entry.Goals as goal

pub returns-in-Ok-clause-same : goal.returns-in-Ok-clause-same
returns-in-Ok-clause-same c entry is e =
    let h = c.in-Some-eq1-default.ensures.cases in
    let read = c.in-Ok.ensures.read in
    same_entry _ entry (same_fields (entry_of c.in-Ok.entry) entry read.1.client read.1.at read.1.short.target is (sym read.0 ∙ (same_head _ _ _ _ (sym h.0 ∙ e)).1))
