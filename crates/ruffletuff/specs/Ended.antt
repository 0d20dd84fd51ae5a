-- What a server that was stopped leaves: its log.
use Rattle.std.specs.Prelude.{ℕ, List, Option, IfSome}
use Rattle.mds_request.specs.Configuration.{Configuration}
use Rattle.server_durable.specs.Journals.{EndsLogged}
use Rattle.server_state.specs.TurnItem.{TurnItem}

-- Where a log is given, its payloads are of each client the records of all turns of the room or its desk, whose lists
-- begin so, in their order, and no others.
abbrev pub LeavesAll : Configuration → List TurnItem → List (List TurnItem) → Option (List (List ℕ)) → Type 0
LeavesAll configuration room openings log = IfSome log (λ texts. ∥ EndsLogged configuration room openings texts ∥₁)
