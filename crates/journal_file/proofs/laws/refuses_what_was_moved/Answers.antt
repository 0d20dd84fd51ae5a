use Rattle.std.proofs.Common.{◌≡◌, ℕ, ◌+◌, ◌^◌, ◌<◌, List, ◌++◌, length, false, Some, ap, ◌∙◌, arith}
use Rattle.std.specs.Prelude.{◌≢◌}
use Rattle.std.proofs.lemmas.List.{length-append}
use Rattle.journal_file.specs.Marks.{mark_of, first_moved}
use Rattle.journal_file.specs.Endings.{ending_of, ending_by, is_opened}
use Rattle.journal_file.proofs.Marked.{mark_claims, mark_length, said_within, moved_found}
use Rattle.journal_file.proofs.Endings.{told_by_marks, moved_by}
use Rattle.journal_file.proofs.laws.refuses_what_was_moved.Goals as goal

refused : (whole own synced : ℕ) (front rest : List ℕ) → own < 2 ^ 64 → synced < 2 ^ 64 → 0 < whole → own ≢ whole + length front
    → is_opened (ending_of whole (front ++ (mark_of own synced ++ rest))) ≡ false
refused whole own synced front rest p s w ne =
    let mark = mark_of own synced ++ rest in
    let behind = front ++ mark in
    let claims = mark_claims own synced rest p s in
    let most = said_within own synced front mark claims in
    let moved = moved_found whole own synced front mark claims ne in
    let some : 0 < length behind = omega (arith, length-append front mark, length-append (mark_of own synced) rest, mark_length own synced) in
    ap is_opened (told_by_marks whole behind w some ∙ ap (λ o. ending_by whole behind o (first_moved whole behind)) most.1 ∙ ap (λ o. ending_by whole behind (Some most.0) o) moved.1)
    ∙ moved_by whole most.0 moved.0 behind

pub returns : goal.returns
returns c = refused
