-- Whose each record is: the number of its client, among those that share the log.
use Rattle.std.specs.Prelude.{◌≡◌, ◌==◌, ℕ, List, [], ◌∷◌, drop, take, if◌then◌else◌, Option, Some, None}
use Rattle.uuid.specs.Text.{parsed}
use Rattle.journal_entry.specs.Entries.{Entry, IsClient, entry_text}
use Rattle.journal_entry.specs.Requests.{actor_by}
use Rattle.journal_entry.specs.declared.encoding.TheConstants.{BY_AUTHOR}
use Rattle.journal_entry.specs.declared.entry.EntryClient.{EntryClient}
use Rattle.journal_entry.specs.declared.entry.EntryClient.TheVariants.{Author as TheAuthor, Operator as OperatorBy}
use Rattle.mds_request.specs.Configuration.{Configuration, actor_of}
use Rattle.mds_request.specs.Request.{Request}
use Rattle.mds_request.specs.declared.config.Actor.{Actor}
use Rattle.server_admission.specs.Actor.{index_of}
use Rattle.server_durable.specs.Records.{IsRecordOf}
use Rattle.server_durable.specs.declared.records.CallReservation.{CallReservation}
use Rattle.server_durable.specs.declared.records.CallReservation.TheVariants.{Reads, Holds}

-- a client of records by the text of an identifier; the author where it isn't one
abbrev pub operator_named : Option (List ℕ) → EntryClient
operator_named None = TheAuthor
operator_named (Some id) = OperatorBy id

-- the client that a text names first
abbrev pub named_first : List ℕ → EntryClient
named_first [] = TheAuthor
named_first (code ∷ text) = if code == BY_AUTHOR then TheAuthor else operator_named (parsed (take 36 text))

-- the number in a configuration of the client that a payload names, behind the layout's version, the moment and the
-- method
abbrev pub client_in : Configuration → List ℕ → ℕ
client_in configuration text = index_of (actor_by configuration (named_first (drop 10 text)))

-- the number of the client of an entry's payload is that of the client that the entry names
abbrev pub ReadsClients : Configuration → (List ℕ → ℕ) → Type 0
ReadsClients configuration client_of =
    (entry : Entry) → IsClient entry.client → client_of (entry_text entry) ≡ index_of (actor_by configuration entry.client)

-- each record of this client's requests has this number for its client
abbrev pub OwnsRecords : Configuration → (List ℕ → ℕ) → Actor → ℕ → Type 0
OwnsRecords configuration client_of who client =
    (request : Request) (text : List ℕ) → actor_of configuration request.token ≡ who → IsRecordOf configuration request text → client_of text ≡ client

-- what is reserved, if anything, is for a payload of the client with this number
abbrev pub IsOwnedBy : (List ℕ → ℕ) → ℕ → CallReservation → Type 0
IsOwnedBy client_of client Reads = Unit {0}
IsOwnedBy client_of client (Holds place) = client_of place.text.items ≡ client

-- what is appended once a request with this reservation was answered with this status
abbrev pub appended_by : CallReservation → ℕ → List (List ℕ)
appended_by Reads status = []
appended_by (Holds place) status = if status == 200 then place.text.items ∷ [] else []
