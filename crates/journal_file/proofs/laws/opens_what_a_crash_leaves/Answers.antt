use Rattle.std.proofs.Common.{◌≡◌, ℕ, ◌<◌, ◌≤◌, List, [], ◌∷◌, ◌++◌, length, drop, true, refl, ap, ◌∙◌, arith}
use Rattle.std.specs.List.{AllByRecursion}
use Rattle.journal_file.specs.Records.{Fits, Reads, written, extent}
use Rattle.journal_file.specs.Marks.{furthest_said}
use Rattle.journal_file.specs.Endings.{beginning, ending_of, ending_by, is_opened}
use Rattle.journal_file.specs.Laws.{SayAtMost}
use Rattle.journal_file.proofs.Written.{synced_within}
use Rattle.journal_file.proofs.Marked.{furthest_within, none_moved}
use Rattle.journal_file.proofs.Endings.{told_by_marks, opened_by}
use Rattle.journal_file.proofs.laws.opens_what_a_crash_leaves.Goals as goal

behind_opened : (most whole : ℕ) (behind : List ℕ) → length beginning < whole → most ≤ whole → SayAtMost most whole behind → is_opened (ending_of whole behind) ≡ true
behind_opened most whole [] lt le each = refl
behind_opened most whole (byte ∷ bytes) lt le each =
    let behind = byte ∷ bytes in
    ap is_opened (told_by_marks whole behind (omega (arith, lt)) (omega arith) ∙ ap (λ o. ending_by whole behind (furthest_said behind) o) (none_moved most whole behind each))
    ∙ opened_by whole behind (furthest_said behind) lt (λ said e. omega (arith, le, furthest_within most whole behind each said e))

opened : (before : ℕ) (synced found : List (List ℕ)) (tail : List ℕ) → AllByRecursion Fits synced
    → Reads before (written before synced ++ tail) found → length beginning < extent found
    → SayAtMost (extent synced) (extent found) (drop (extent found) (written before synced ++ tail))
    → is_opened (ending_of (extent found) (drop (extent found) (written before synced ++ tail))) ≡ true
opened before synced found tail fits r lt each =
    behind_opened (extent synced) (extent found) (drop (extent found) (written before synced ++ tail)) lt (synced_within before synced found tail fits r) each

pub returns : goal.returns
returns c = opened
