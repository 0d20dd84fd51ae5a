-- Whose payloads are whose, and what a client knows of its own. `client_of` gives the number of the client of a payload.
use mathlib.Core.List.{IsPrefix}
use Rattle.std.specs.Prelude.{◌≡◌, ◌==◌, ℕ, List, ◌++◌, filter, length, slice_get, Some}
use Rattle.std.specs.List.{AllByRecursion}

-- this client's payloads among these, in their order
abbrev pub of_client : (List ℕ → ℕ) → ℕ → List (List ℕ) → List (List ℕ)
of_client client_of client texts = filter (λ text. client_of text == client) texts

-- each of these payloads is this client's
abbrev pub AreOf : (List ℕ → ℕ) → ℕ → List (List ℕ) → Type 0
AreOf client_of client texts = AllByRecursion (λ text. client_of text ≡ client) texts

-- each number of the table is that of its client's payloads
pub record AreCounts (client_of : List ℕ → ℕ) (counts : List ℕ) (texts : List (List ℕ)) : Type 0 where
  pub each : (client count : ℕ) → slice_get counts client ≡ Some count → count ≡ length (of_client client_of client texts)

-- a client, and all that was appended up to the last of its payloads that it knows
pub record Own : Type 0 where
  pub client : ℕ
  pub texts : List (List ℕ)

-- All that was appended goes on from what the client knew, and its own payloads there are those that it knew and these
-- behind them.
pub record GoesOnBy (client_of : List ℕ → ℕ) (own : Own) (more all : List (List ℕ)) : Type 0 where
  pub begins : IsPrefix own.texts all
  pub records : of_client client_of own.client all ≡ of_client client_of own.client own.texts ++ more
