-- Entries as requests: with the access tokens of a configuration an entry is the request that was accepted.
use Rattle.std.specs.Prelude.{◌≡◌, ℕ, Bool, false, List, bytes_eq, option_map, position, slice_get, Option, Some, None}
use Rattle.mds_request.specs.Configuration.{Configuration, Operator, operator_at, actor_of, ids}
use Rattle.mds_request.specs.Configuration.{repeats}
use Rattle.mds_request.specs.Request.{Request}
use Rattle.mds_request.specs.declared.config.Actor.{Actor}
use Rattle.mds_request.specs.declared.config.Actor.TheVariants.{Author, Operator as OperatorAt, Nobody}
use Rattle.journal_entry.specs.Entries.{Entry}
use Rattle.journal_entry.specs.declared.entry.EntryClient.{EntryClient}
use Rattle.journal_entry.specs.declared.entry.EntryClient.TheVariants.{Author as TheAuthor, Operator as OperatorBy}

abbrev pub has_id : List ℕ → Operator → Bool
has_id id operator = bytes_eq operator.id id

-- the client of an entry in a configuration
abbrev pub actor_by : Configuration → EntryClient → Actor
actor_by configuration TheAuthor = Author
actor_by configuration (OperatorBy id) = operator_at (position (has_id id) configuration.operators)

abbrev pub token_of : Configuration → Actor → Option (List ℕ)
token_of configuration Author = Some configuration.author
token_of configuration (OperatorAt place) = option_map (λ o. o.token) (slice_get configuration.operators place)
token_of configuration Nobody = None

abbrev pub with_token : Entry → List ℕ → Request
with_token e token = record { at = e.at; token = token; verb = e.verb; target = e.target; body = e.body }

-- the request of an entry, with its client's access token, where the configuration has one
abbrev pub request_by : Configuration → Entry → Option Request
request_by configuration e = option_map (with_token e) (token_of configuration (actor_by configuration e.client))

abbrev pub client_at : Configuration → Actor → Option EntryClient
client_at configuration Author = Some TheAuthor
client_at configuration (OperatorAt place) = option_map (λ o. OperatorBy o.id) (slice_get configuration.operators place)
client_at configuration Nobody = None

abbrev pub asked_by : Request → EntryClient → Entry
asked_by r client = record { client = client; at = r.at; verb = r.verb; target = r.target; body = r.body }

-- the entry of a request, where its access token is a client's
abbrev pub entry_by : Configuration → Request → Option Entry
entry_by configuration r = option_map (asked_by r) (client_at configuration (actor_of configuration r.token))

-- Where no two operators have the same identifier, the entry of a request reads as that request.
abbrev pub ReadsTheRequest : Type 0
ReadsTheRequest =
    (configuration : Configuration) (request : Request) (entry : Entry) → repeats (ids configuration.operators) ≡ false
    → entry_by configuration request ≡ Some entry → request_by configuration entry ≡ Some request
