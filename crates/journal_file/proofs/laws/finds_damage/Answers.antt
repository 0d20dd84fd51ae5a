use Rattle.std.proofs.Common.{◌≡◌, ℕ, ◌^◌, ◌<◌, ◌≤◌, List, ◌++◌, length, ap, ◌∙◌, arith}
use Rattle.std.proofs.lemmas.List.{length-append}
use Rattle.journal_file.specs.Marks.{mark_of, first_moved}
use Rattle.journal_file.specs.Endings.{ending_of, ending_by}
use Rattle.journal_file.specs.declared.ending.JournalEnding.TheVariants.{Damaged}
use Rattle.journal_file.proofs.Marked.{mark_claims, mark_length, said_within}
use Rattle.journal_file.proofs.Endings.{told_by_marks, damaged_by}
use Rattle.journal_file.proofs.laws.finds_damage.Goals as goal

found : (whole own synced : ℕ) (front rest : List ℕ) → own < 2 ^ 64 → synced < 2 ^ 64 → 0 < whole → whole < synced
    → (said : ℕ) × (ending_of whole (front ++ (mark_of own synced ++ rest)) ≡ Damaged said) × (synced ≤ said)
found whole own synced front rest p s w beyond =
    let mark = mark_of own synced ++ rest in
    let behind = front ++ mark in
    let most = said_within own synced front mark (mark_claims own synced rest p s) in
    let some : 0 < length behind = omega (arith, length-append front mark, length-append (mark_of own synced) rest, mark_length own synced) in (
      most.0,
      told_by_marks whole behind w some ∙ ap (λ o. ending_by whole behind o (first_moved whole behind)) most.1 ∙ damaged_by whole most.0 behind (first_moved whole behind) (omega (arith, beyond, most.2)),
      most.2,
    )

pub returns : goal.returns
returns c = found
