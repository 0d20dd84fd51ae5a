-- The record of a turn.
use Rattle.std.proofs.Common.{◌≡◌, ℕ, Bool, true, false, List, [], ◌∷◌, ◌++◌, Option, Some, None, IfSome, IfNone, IsSome, Result, Ok, Err, IfOk, option_map, refl, sym, subst}
use Rattle.std.specs.Prelude.{◌&&◌, ◌==◌}
use Rattle.std.proofs.lemmas.Bool.{eqb-true}
use Rattle.journal_commit.specs.declared.backlog.Reservation.{Reservation}
use Rattle.mds_request.specs.Call.{call_of}
use Rattle.mds_request.specs.Configuration.{Configuration}
use Rattle.mds_request.specs.Request.{Request}
use Rattle.mds_request.specs.Reply.{Reply}
use Rattle.mds_request.specs.declared.config.Actor.{Actor}
use Rattle.journal_laws.specs.Persisted.{is_kept, may_change}
use Rattle.std.proofs.Math.Logic.{∥∥₁_map}
use Rattle.mds_desk.specs.Desk.{DeskState}
use Rattle.server_state.specs.Respond.{TurnGives}
use Rattle.server_state.specs.TurnItem.{TurnItem, Answered}
use Rattle.server_state.specs.TurnList.{AreTurnsOf, IsToldTurn}
use Rattle.server_durable.specs.DurableResponse.{IsRecordedTurn}
use Rattle.server_durable.specs.Records.{HasRecord, IsAmong, IsReserved, IsSettled, IsTitled, place_of}
use Rattle.server_durable.specs.declared.records.CallReservation.{CallReservation}
use Rattle.server_durable.specs.declared.records.CallReservation.TheVariants.{Reads, Holds}

pub first_true : (a b : Bool) → (a && b) ≡ true → a ≡ true
first_true true b is = refl
first_true false b is = absurd cc

pub second_true : (a b : Bool) → (a && b) ≡ true → b ≡ true
second_true true b is = is
second_true false b is = absurd cc

has_record : (configuration : Configuration) (request : Request) (reply : Reply) (reserved : CallReservation) (stamp : List (List ℕ))
    → IsReserved configuration request reserved → IsSettled reserved reply.status stamp
    → is_kept configuration (record { request = request; reply = reply }) ≡ true → HasRecord configuration request stamp
has_record configuration request reply Reads stamp is settled kept =
    let may = first_true (may_change (call_of configuration request)) (reply.status == 200) kept in
    absurd (cc (may, is))
has_record configuration request reply (Holds place) stamp is settled kept =
    (place.text.items, is.1, settled (eqb-true reply.status 200 (second_true (may_change (call_of configuration request)) (reply.status == 200) kept)))

-- a turn whose reservation was completed is recorded
pub recorded : (configuration : Configuration) (actor : Actor) (request : Request) (reply : Reply) (reserved : CallReservation) (stamp : List (List ℕ))
    → TurnGives configuration actor request reply → IsReserved configuration request reserved → IsSettled reserved reply.status stamp
    → IsRecordedTurn configuration actor request reply stamp
recorded configuration actor request reply reserved stamp turn is settled =
    record { turn = turn; recorded = has_record configuration request reply reserved stamp is settled }

-- a reservation is completed where its payload is among these
pub settled_shown : (text : List ℕ) (reserved : CallReservation) (status : ℕ) (stamp : List (List ℕ)) → IsTitled text reserved → IsAmong text stamp
    → IsSettled reserved status stamp
settled_shown text Reads status stamp is among = tt
settled_shown text (Holds place) status stamp is among = λ success. subst (λ (t : List ℕ). IsAmong t stamp) (sym is) among

-- or where the request was refused
pub settled_refused : (reserved : CallReservation) (status : ℕ) (stamp : List (List ℕ)) → (status ≡ 200 → ⊥) → IsSettled reserved status stamp
settled_refused Reads status stamp refused = tt
settled_refused (Holds place) status stamp refused = λ success. absurd (refused success)

-- or where what is still reserved is
pub settled_held : {H : Type 0} (place : H → Reservation) (text : List ℕ) (reserved : CallReservation) (held : Option H) (status : ℕ) (stamp : List (List ℕ))
    → IsTitled text reserved → option_map place held ≡ place_of reserved
    → IfSome held (λ _. status ≡ 200 → IsAmong text stamp) → IsSettled reserved status stamp
settled_held place text Reads held status stamp is same settled = tt
settled_held place text (Holds it) None status stamp is same settled = absurd cc
settled_held place text (Holds it) (Some h) status stamp is same settled = λ success. subst (λ (t : List ℕ). IsAmong t stamp) (sym is) (settled success)

-- or where no publication asked to be committed
pub settled_unasked : {H E : Type 0} (place : H → Reservation) (text : List ℕ) (reserved : CallReservation) (held : Option H) (shown : Option E) (status : ℕ) (stamp : List (List ℕ))
    → IsTitled text reserved → option_map place held ≡ place_of reserved → shown ≡ None
    → IfNone shown (IfSome held (λ _. status ≡ 200 → IsAmong text stamp)) → IsSettled reserved status stamp
settled_unasked place text reserved held None status stamp is same none settled = settled_held place text reserved held status stamp is same settled
settled_unasked place text reserved held (Some e) status stamp is same none settled = absurd cc

-- what holds for the value of an option, where there is one
pub of_some : {A P : Type 0} (o : Option A) → IsSome o → IfSome o (λ _. P) → P
of_some None some p = absurd cc
of_some (Some a) some p = p

-- a turn is recorded where the completion of its record gives its reply, and a log position by which its reservation is
-- completed
pub recorded_outcome : {V E : Type 0} (answer : V → Reply) (position : V → List (List ℕ)) (configuration : Configuration) (actor : Actor) (request : Request) (reply : Reply) (reserved : CallReservation) (outcome : Result V E)
    → TurnGives configuration actor request reply → IsReserved configuration request reserved → IfOk outcome (λ answered. answer answered ≡ reply)
    → ((answered : V) → outcome ≡ Ok answered → IsSettled reserved reply.status (position answered))
    → IfOk outcome (λ answered. IsRecordedTurn configuration actor request (answer answered) (position answered))
recorded_outcome answer position configuration actor request reply reserved (Ok answered) turn is same settled =
    subst (λ (told : Reply). IsRecordedTurn configuration actor request told (position answered)) (sym same)
    (recorded configuration actor request reply reserved (position answered) turn is (settled answered refl))
recorded_outcome answer position configuration actor request reply reserved (Err e) turn is same settled = tt

-- where something was shown and there is no note, an outcome fails as another does
pub ahead_alike : {A B E F S N : Type 0} (failed : F → E) (shown : Option S) (note : Option N) (outcome : Result A E) (other : Result B E)
    → ((e : E) → outcome ≡ Err e → other ≡ Err e) → IfSome shown (λ _. IfNone note ((failure : F) × (outcome ≡ Err (failed failure))))
    → IfSome shown (λ _. IfNone note ((failure : F) × (other ≡ Err (failed failure))))
ahead_alike failed None noted outcome other same ahead = tt
ahead_alike failed (Some s) None outcome other same ahead = (ahead.0, same (failed ahead.0) ahead.1)
ahead_alike failed (Some s) (Some n) outcome other same ahead = tt

-- a reply is told of the turn that is the last of its desk's list
pub told_last : (configuration : Configuration) (place at : ℕ) (items all : List TurnItem) (request : Request) (reply : Reply) (d : DeskState)
    → at ≡ place → ∥ AreTurnsOf configuration at all d ∥₁ → all ≡ items ++ Answered request reply ∷ []
    → ∥ IsToldTurn configuration place request reply all ∥₁
told_last configuration place at items all request reply d same are is =
    subst (λ (p : ℕ). ∥ IsToldTurn configuration p request reply all ∥₁) same
    (∥∥₁_map are (λ turns. record { before = items; after = d; last = is; turns = turns }))
