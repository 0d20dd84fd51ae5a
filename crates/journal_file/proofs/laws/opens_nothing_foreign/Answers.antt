use Rattle.std.proofs.Common.{◌≡◌, ℕ, List, [], ◌∷◌, ◌++◌, drop, length, true, refl, arith}
use Rattle.std.specs.Prelude.{◌==◌}
use Rattle.std.proofs.lemmas.Slice.Eq.{starts_is}
use Rattle.journal_file.specs.Endings.{beginning, ending_of, is_opened}
use Rattle.journal_file.proofs.Endings.{begun}
use Rattle.journal_file.proofs.laws.opens_nothing_foreign.Goals as goal

own : (bytes : List ℕ) → is_opened (ending_of 0 bytes) ≡ true → (rest : List ℕ) × (beginning ≡ bytes ++ rest)
own [] o = (beginning, refl)
own (byte ∷ bytes) o =
    (drop (length (byte ∷ bytes)) beginning, (starts_is {E = λ a b. a == b} (λ a b. grind arith) beginning (byte ∷ bytes) _ refl).0 (begun byte bytes o))

pub returns : goal.returns
returns c = own
