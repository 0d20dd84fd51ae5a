-- The records of a desk's turns in a log.
use mathlib.Core.List.{IsPrefix}
use Rattle.std.specs.Prelude.{ℕ, List, [], ◌∷◌, ◌++◌}
use Rattle.journal_commit.specs.Clients.{Own, of_client}
use Rattle.journal_laws.specs.Persisted.{kept, requests_in}
use Rattle.mds_machine.specs.Step.{Exchange}
use Rattle.mds_request.specs.Configuration.{Configuration}
use Rattle.mds_request.specs.Request.{Request}
use Rattle.server_state.specs.TurnItem.{TurnItem, Opened, OpenedRoom, Answered, Ran}
use Rattle.server_durable.specs.Many.{AreRecordsOf, exchanges}

-- the requests of these turns with their replies, in their order
abbrev pub exchanges_in : List TurnItem → List Exchange
exchanges_in [] = []
exchanges_in (Opened known rows ∷ items) = exchanges_in items
exchanges_in (OpenedRoom drafts publications ∷ items) = exchanges_in items
exchanges_in (Answered request reply ∷ items) = record { request = request; reply = reply } ∷ exchanges_in items
exchanges_in (Ran requests replies ∷ items) = exchanges requests replies ++ exchanges_in items

-- the requests of these turns that have records: those that a journal persists
abbrev pub logged_in : Configuration → List TurnItem → List Request
logged_in configuration items = requests_in (kept configuration (exchanges_in items))

-- the payloads are the records of these turns, in their order
abbrev pub AreLogged : Configuration → List TurnItem → List (List ℕ) → Type 0
AreLogged configuration items texts = AreRecordsOf configuration (logged_in configuration items) texts

-- the client's own records are those of these turns
abbrev pub OwnsTurns : Configuration → (List ℕ → ℕ) → Own → List TurnItem → Type 0
OwnsTurns configuration client_of own items = AreLogged configuration items (of_client client_of own.client own.texts)

-- The payloads of the client in a log position begin with the records of all these turns, in their order and with no
-- other of the client's between.
pub record ShowsTurns (configuration : Configuration) (client_of : List ℕ → ℕ) (client : ℕ) (items : List TurnItem) (stamp : List (List ℕ)) : Type 0 where
  pub texts : List (List ℕ)
  pub logged : AreLogged configuration items texts
  pub shown : IsPrefix texts (of_client client_of client stamp)
