use Rattle.std.proofs.Common.{◌≡◌, ℕ, List, ◌++◌}
use Rattle.std.specs.List.{AllByRecursion}
use Rattle.journal_file.specs.Sum.{sums_over}
use Rattle.journal_file.specs.Laws.{IsFrontOf, IsTornFrom}
use Rattle.journal_file.specs.Records.{Reads, Fits, written}
use Rattle.journal_file.proofs.Written.{written_first, torn_front}
use Rattle.journal_file.proofs.laws.reads_what_was_synced.Goals as goal

synced_first : (before : ℕ) (synced pending found : List (List ℕ)) (tail : List ℕ) → AllByRecursion Fits synced
    → IsTornFrom (sums_over before synced) pending tail → Reads before (written before synced ++ tail) found
    → (more : List (List ℕ)) × (found ≡ synced ++ more) × IsFrontOf more pending
synced_first before synced pending found tail fits torn r =
    let w = written_first before synced found tail fits r in
    (w.0, w.1, torn_front (sums_over before synced) pending w.0 tail torn w.2)

pub returns : goal.returns
returns c = synced_first
