-- What waits to be written: the payloads that were appended after those that the flusher has taken.
use Rattle.std.specs.Prelude.{List, ℕ, refl}
use Rattle.std.specs.Coded.{Coded, code_by, coded×}
use Rattle.journal_commit.specs.Codes.{coded_texts}

pub record Waiting : Type 0 where
  pub taken : List (List ℕ)
  pub appended : List (List ℕ)

pub coded_waiting : Coded Waiting
coded_waiting =
    code_by (List (List ℕ) × List (List ℕ)) (coded× coded_texts coded_texts) (λ w. (w.taken, w.appended)) (λ t. record { taken = t.0; appended = t.1 }) (λ _. refl)
