use Rattle.std.proofs.Common.{◌≡◌, ℕ, ◌<◌, List, ◌++◌, length, ap, sym, ◌∙◌, append_assoc, arith}
use Rattle.std.proofs.lemmas.List.{length-append}
use Rattle.journal_entry.specs.Entries.{id_text, size_text}
use Rattle.journal_entry.proofs.Spelled.{same_id, size_length}
use Rattle.journal_entry.proofs.head.share_in.Goals as goal

pub returns-in-Err-clause-malformed : goal.returns-in-Err-clause-malformed
returns-in-Err-clause-malformed c m share rest is e =
    c.in-Err.ensures.malformed m share.id (size_text share.vehicles ++ rest) is.0 (e ∙ append_assoc (id_text share.id) (size_text share.vehicles) rest)

pub returns-in-None-clause-malformed : goal.returns-in-None-clause-malformed
returns-in-None-clause-malformed c m share rest is e =
    let own = c.in-Ok.ensures.read in
    let same = same_id c.in-Ok.found.0 share.id c.in-Ok.found.1.now (size_text share.vehicles ++ rest) own.1 is.0 (sym own.0 ∙ e ∙ append_assoc (id_text share.id) (size_text share.vehicles) rest) in
    absurd (omega (arith, c.in-None.ensures, ap length same.1, length-append (size_text share.vehicles) rest, size_length share.vehicles))
