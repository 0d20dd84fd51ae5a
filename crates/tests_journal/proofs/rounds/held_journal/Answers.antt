use Rattle.std.proofs.Common.{◌≡◌, ℕ, List, [], ap, subst, sym, ◌∙◌, length}
use Rattle.journal_file.specs.Groups.{MayBeOf}
use Rattle.tests_journal.proofs.Nothing.{nothing_listed}
use Rattle.tests_journal.proofs.rounds.held_journal.Goals as goal

pub returns : goal.returns
returns g c =
    let list = c.in-Ok.ensures.list in
    let empty = ap length (sym c.held_storage.ensures ∙ list.2) ∙ list.4 in
    let log = c.in-Ok.log in
    c.new.ensures.unchanged [] (subst (λ (texts : List (List ℕ)). MayBeOf (λ bytes. log.medium.memory.bytes.items ≡ bytes) log.is_broken log.position log.sum log.count texts)
    (nothing_listed list.1 empty) list.5)
