use Rattle.std.proofs.Common.{◌≡◌, ℕ, List, [], ◌∷◌, replicate, refl}
use Rattle.journal_file.specs.Records.{Reads}
use Rattle.journal_file.proofs.Records.{zeros_none, not_none}
use Rattle.journal_file.proofs.laws.reads_no_zeros.Goals as goal

none_found : (before count : ℕ) (found : List (List ℕ)) → Reads before (replicate count 0) found → found ≡ []
none_found before count [] r = refl
none_found before count (text ∷ found) r = absurd (not_none _ _ (zeros_none before count) r.1)

pub returns : goal.returns
returns c = none_found
