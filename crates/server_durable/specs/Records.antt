-- Records of requests, and their reservations in a log.
use Rattle.std.specs.Prelude.{◌≡◌, ◌≤◌, ℕ, true, false, List, [], ◌∷◌, ◌++◌, length, Option, Some, None, IfSome, Result, Ok}
use Rattle.journal_commit.specs.Durable.{AreDurable}
use Rattle.journal_commit.specs.declared.backlog.Reservation.{Reservation}
use Rattle.journal_entry.specs.Entries.{Entry, entry_text}
use Rattle.journal_entry.specs.Requests.{asked_by, entry_by}
use Rattle.journal_entry.specs.declared.entry.EntryClient.{EntryClient}
use Rattle.journal_entry.specs.declared.entry.TheConstants.{MOST_TARGET}
use Rattle.mds_text.specs.Fields.{last_moment}
use Rattle.mds_request.specs.declared.call.TheConstants.{MOST_BODY}
use Rattle.mds_request.specs.Configuration.{Configuration}
use Rattle.mds_request.specs.Request.{Request}
use Rattle.mds_request.specs.Call.{call_of}
use Rattle.mds_request.specs.declared.call.Call.{Call}
use Rattle.mds_request.specs.declared.call.Call.TheVariants.{Author, Operator}
use Rattle.journal_laws.specs.Persisted.{may_change}
use Rattle.server_admission.specs.Actor.{index_of}
use Rattle.mds_request.specs.declared.config.Actor.{Actor}
use Rattle.mds_request.specs.declared.config.Actor.TheVariants as actor
use Rattle.server_durable.specs.declared.records.CallReservation.{CallReservation}
use Rattle.server_durable.specs.declared.records.CallReservation.TheVariants.{Reads, Holds}

-- the client that makes a call
abbrev pub caller_of : Call → Actor
caller_of (Author call) = actor.Author
caller_of (Operator place call) = actor.Operator place

-- the index of the client that makes a call, among those that share the log
abbrev pub sharer_of : Call → ℕ
sharer_of call = index_of (caller_of call)

-- the payload is one of these
abbrev pub IsAmong : List ℕ → List (List ℕ) → Type 0
IsAmong text texts = (before : List (List ℕ)) × (after : List (List ℕ)) × (texts ≡ before ++ text ∷ after)

-- the payload of the record of this client's request
abbrev pub record_by : EntryClient → Request → List ℕ
record_by client request = entry_text (asked_by request client)

-- the request is within the limits of an entry
pub record IsRecordable (request : Request) : Type 0 where
  pub at : request.at ≤ last_moment
  pub target : length request.target ≤ MOST_TARGET
  pub body : length request.body ≤ MOST_BODY

-- the payload is that of the request's entry, with its client and no access token
pub record IsRecordOf (configuration : Configuration) (request : Request) (text : List ℕ) : Type 0 where
  pub entry : Entry
  pub is_its : entry_by configuration request ≡ Some entry
  pub text_is : text ≡ entry_text entry
  pub within : IsRecordable request

-- the request's record is among these payloads
abbrev pub HasRecord : Configuration → Request → List (List ℕ) → Type 0
HasRecord configuration request texts = (text : List ℕ) × IsRecordOf configuration request text × IsAmong text texts

-- what is reserved is what the request needs: nothing where its call changes nothing, and the reservation for its
-- record where it may change something
abbrev pub IsReserved : Configuration → Request → CallReservation → Type 0
IsReserved configuration request Reads = may_change (call_of configuration request) ≡ false
IsReserved configuration request (Holds place) =
    (may_change (call_of configuration request) ≡ true) × IsRecordOf configuration request place.text.items

-- where a request was answered with success, the payload that was reserved for is among these
abbrev pub IsSettled : CallReservation → ℕ → List (List ℕ) → Type 0
IsSettled Reads status stamp = Unit {0}
IsSettled (Holds place) status stamp = status ≡ 200 → IsAmong place.text.items stamp

-- the reservation, if there is one
abbrev pub place_of : CallReservation → Option Reservation
place_of Reads = None
place_of (Holds place) = Some place

-- the payload of a reservation
abbrev pub text_of : CallReservation → List ℕ
text_of Reads = []
text_of (Holds place) = place.text.items

-- the reservation, if there is one, is for this payload
abbrev pub IsTitled : List ℕ → CallReservation → Type 0
IsTitled text reserved = IfSome (place_of reserved) (λ place. place.text.items ≡ text)

module _ {L : Type 0} (may_be : L → List (List ℕ) → Type 0) (is_synced : L → Type 0) where
  -- what was appended and synced is the payload, with all before it
  abbrev pub IsShown : {E : Type 0} → List ℕ → Option (Result (List (List ℕ)) E) → Type 0
  IsShown text (Some (Ok stamp)) = IsAmong text stamp × AreDurable may_be is_synced stamp
  IsShown text other = ⊥
