use Rattle.std.proofs.Common.{◌≡◌, ℕ, ◌<◌, List, ◌++◌, length, take, ap, ◌∙◌, arith}
use Rattle.std.proofs.lemmas.List.{length-append, take_at}
use Rattle.journal_entry.specs.Entries.{id_text}
use Rattle.journal_entry.proofs.Spelled.{id_length}
use Rattle.journal_entry.proofs.decoding.id_in.Goals as goal

pub returns-then-bytes-lt-ID_SIZE-clause-malformed : goal.returns-then-bytes-lt-ID_SIZE-clause-malformed
returns-then-bytes-lt-ID_SIZE-clause-malformed c m id rest is e = absurd (omega (arith, c.if-bytes-lt-ID_SIZE.true, ap length e, length-append (id_text id) rest, id_length id))

pub returns-in-Err-clause-malformed : goal.returns-in-Err-clause-malformed
returns-in-Err-clause-malformed c m id rest is e =
    c.in-Err.ensures.malformed m id is (c.split_at.ensures.front ∙ ap (λ (t : List ℕ). take 36 t) e ∙ take_at (id_text id) rest 36 (id_length id))
