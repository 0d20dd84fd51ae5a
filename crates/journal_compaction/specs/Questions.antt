-- The questions by which compaction compares two servers: requests with the client in place of the access token.
use Rattle.std.specs.Prelude.{ℕ, Bool, true, false, List, [], ◌∷◌, ◌++◌, map, codes, if◌then◌else◌}
use Rattle.mds_request.specs.Configuration.{Configuration, Operator}
use Rattle.mds_request.specs.declared.request.Verb.{Verb}
use Rattle.mds_request.specs.declared.request.Verb.TheVariants.{Get, Put}
use Rattle.journal_entry.specs.Entries.{Entry}
use Rattle.journal_entry.specs.declared.entry.EntryClient.{EntryClient}
use Rattle.journal_entry.specs.declared.entry.EntryClient.TheVariants.{Author, Operator as OperatorBy}

-- a GET request for this target
abbrev pub asks : ℕ → EntryClient → List ℕ → Entry
asks at client target = record { client = client; at = at; verb = Get; target = target; body = [] }

abbrev pub is_put_by : EntryClient → Verb → Bool
is_put_by Author Put = true
is_put_by client verb = false

-- the author put a draft by this entry
abbrev pub is_draft : Entry → Bool
is_draft e = is_put_by e.client e.verb

-- the question for an operator's vehicles
abbrev pub fleet_of : ℕ → Operator → Entry
fleet_of at operator = asks at (OperatorBy operator.id) (codes "/fleet/vehicles")

abbrev pub fleets : ℕ → List Operator → List Entry
fleets at operators = map (fleet_of at) operators

-- a question for each draft that was put by one of these entries
abbrev pub drafts : ℕ → List Entry → List Entry
drafts at [] = []
drafts at (e ∷ entries) = if is_draft e then asks at Author e.target ∷ drafts at entries else drafts at entries

-- the policies, the geographies, each operator's vehicles, and the drafts
abbrev pub questions : Configuration → ℕ → List Entry → List Entry
questions configuration at entries =
    asks at Author (codes "/policies") ∷ asks at Author (codes "/geographies") ∷ (fleets at configuration.operators ++ drafts at entries)
