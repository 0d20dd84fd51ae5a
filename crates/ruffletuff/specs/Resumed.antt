-- What is served: a room and desks that begin as those of a server that was started from what the log had.
use Rattle.std.specs.Prelude.{◌≡◌, ℕ, List, map}
use Rattle.mds_desk.specs.Room.{held_in}
use Rattle.mds_request.specs.Configuration.{Configuration}
use Rattle.journal_recovery.specs.Recovery.{Server}
use Rattle.server_journal.specs.Starting.{IsStartedFrom}
use Rattle.server_state.specs.RoomTurns.{room_opened_as}
use Rattle.server_state.specs.TurnItem.{TurnItem}
use Rattle.server_state.specs.TurnList.{opened_as}

-- The lists of turns of this room and these desks begin so; they are those of a room and desks that were started from
-- these payloads.
abbrev pub AreResumed : Configuration → (dropped first : List (List ℕ)) → List TurnItem → List (List TurnItem) → Type 0
AreResumed configuration dropped first room openings =
    (s : Server) × IsStartedFrom configuration dropped first s × (room ≡ room_opened_as (held_in s.room))
    × (openings ≡ map opened_as s.desks)
