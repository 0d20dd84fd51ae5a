-- The records of the turns of the author's room in a log.
use mathlib.Core.List.{IsPrefix}
use Rattle.std.specs.Prelude.{◌≡◌, ℕ, List, ◌++◌, Option, Some, None, Result, Ok, Err}
use Rattle.journal_commit.specs.Clients.{Own, of_client}
use Rattle.journal_commit.specs.declared.backlog.Reservation.{Reservation}
use Rattle.mds_request.specs.Configuration.{Configuration}
use Rattle.mds_request.specs.Request.{Request}
use Rattle.mds_request.specs.Reply.{Reply}
use Rattle.mds_request.specs.declared.config.Actor.TheVariants.{Author}
use Rattle.server_admission.specs.Actor.{index_of}
use Rattle.server_state.specs.RoomTurns.{IsToldRoomTurn}
use Rattle.server_state.specs.TurnItem.{TurnItem}
use Rattle.server_durable.specs.Logged.{AreLogged, ShowsTurns}
use Rattle.server_durable.specs.Owners.{appended_by}
use Rattle.server_durable.specs.Records.{place_of}
use Rattle.server_durable.specs.declared.records.CallReservation.{CallReservation}

-- The turn of the room that gives this reply to this request is the last of a list of all its turns, which begins so and
-- whose records are at the front of the author's payloads in a log position.
pub record IsLoggedRoomTurn (configuration : Configuration) (client_of : List ℕ → ℕ) (opening : List TurnItem) (request : Request) (reply : Reply)
    (stamp : List (List ℕ)) : Type 0 where
  pub items : List TurnItem
  pub begins : IsPrefix opening items
  pub told : IsToldRoomTurn configuration request reply items
  pub shows : ShowsTurns configuration client_of (index_of Author) items stamp

-- once a request with this reservation was answered with this status, the client's own records are those of these turns
abbrev pub WillOwnTurns : Configuration → (List ℕ → ℕ) → CallReservation → Own → ℕ → List TurnItem → Type 0
WillOwnTurns configuration client_of reserved before status items =
    AreLogged configuration items (of_client client_of before.client before.texts ++ appended_by reserved status)

-- the client knows all of a log position, where its own payloads are those that it knew and that of the reservation
pub record IsAppended (client_of : List ℕ → ℕ) (reserved : CallReservation) (before own : Own) (stamp : List (List ℕ)) : Type 0 where
  pub known : own.texts ≡ stamp
  pub client : own.client ≡ before.client
  pub records : of_client client_of before.client own.texts ≡ of_client client_of before.client before.texts ++ appended_by reserved 200

-- How far the commit of a record is, by what is still reserved, what the client knows of its own records, and what an
-- append gave: nothing was appended yet, it failed, or the record is appended.
abbrev pub IsUnderway : {E : Type 0} → (List ℕ → ℕ) → CallReservation → Own → Option Reservation → Own → Option (Result (List (List ℕ)) E) → Type 0
IsUnderway client_of reserved before place own None = (place ≡ place_of reserved) × (own ≡ before)
IsUnderway client_of reserved before place own (Some (Err fault)) = place ≡ None
IsUnderway client_of reserved before place own (Some (Ok stamp)) = (place ≡ None) × IsAppended client_of reserved before own stamp
