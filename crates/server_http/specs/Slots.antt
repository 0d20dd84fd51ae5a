-- The table of connections: how many each client has, which are idle, and what waits of each client.
use Rattle.std.specs.Prelude.{◌≡◌, ℕ, ◌+◌, ◌-◌, List, [], ◌∷◌, length, map, drop, Bool, true, false, not, ◌&&◌, nat_lt, if◌then◌else◌, IsTrue, IsFalse, Option, None, Some, is_none, is_some, option_map, unwrap_or, min, slice_set, slice_index, slice_index_or}
use Rattle.std.specs.Option.{option_map_or, option_and_then}
use Rattle.std.specs.Ordering.{nat_cmp}
use Rattle.std.specs.Map.{remove_entry}
use Rattle.std.specs.BTreeMap.{is_at, insert_entry}
use Rattle.slab.specs.Slab.{Slab, Updates, get}
use Rattle.mds_request.specs.declared.config.Actor.{Actor}
use Rattle.mds_request.specs.declared.config.Actor.TheVariants.{Author, Operator, Nobody}
use Rattle.server_admission.specs.Actor.{index_of}
use Rattle.server_admission.specs.Slot.{is_over, is_full, HasMost}
use Rattle.server_admission.specs.Waiting.{may_wait_beside}
use Rattle.server_admission.specs.declared.slot.Decision.{Decision}
use Rattle.server_admission.specs.declared.slot.Decision.TheVariants.{Take, Close}
use Rattle.server_admission.specs.declared.waiting.Load.{Load}
use Rattle.server_http.specs.declared.slots.Admittance.{Admittance}
use Rattle.server_http.specs.declared.slots.Admittance.TheVariants.{Admitted, Busy}
use Rattle.server_http.specs.declared.slots.ConnEntry.{ConnEntry}
use Rattle.server_http.specs.declared.slots.ConnTable.{ConnTable}

-- how many connections each client has, and how many there are
pub record Counts : Type 0 where
  pub each : List ℕ
  pub all : ℕ

abbrev pub counts_of : ConnTable → Counts
counts_of table = record { each = table.counts.items; all = table.all }

-- one more, up to the largest machine number
abbrev pub one_more : ℕ → ℕ
one_more count = min (count + 1) 0xFFFF_FFFF_FFFF_FFFF

-- with one more connection of this client
abbrev pub counted : ℕ → Counts → Counts
counted client counts = record {
  each = slice_set counts.each client (one_more (slice_index counts.each client));
  all = one_more counts.all;
}

-- with one less, and none less than none
abbrev pub uncounted : ℕ → Counts → Counts
uncounted client counts = record {
  each = slice_set counts.each client (slice_index counts.each client - 1);
  all = counts.all - 1;
}

-- without the connection at a key; one that was told to close isn't counted
abbrev pub counts_without : ℕ → ConnTable → Counts
counts_without key table = option_map_or (λ conn. if conn.is_closing then counts_of table else uncounted conn.client (counts_of table)) (get table.conns key) (counts_of table)

-- nothing waits
abbrev pub no_load : Load
no_load = record { requests = 0; bytes = 0 }

-- what waits of a client
abbrev pub load_of : ConnTable → ℕ → Load
load_of table client = slice_index_or table.loads.items client no_load

-- with one more request, whose body counts as so many bytes
abbrev pub load_with : ℕ → Load → Load
load_with bytes load = record { requests = load.requests + 1; bytes = load.bytes + bytes }

-- without one request, whose body counts as so many bytes
abbrev pub load_without : ℕ → Load → Load
load_without bytes load = record { requests = load.requests - 1; bytes = load.bytes - bytes }

-- the bytes that the unanswered request of the connection at a key counts as, if there is one
abbrev pub waits_at : ConnTable → ℕ → Option ℕ
waits_at table key = option_and_then (λ conn. conn.waits) (get table.conns key)

-- what waits of each client, without the unanswered request of the connection at a key, if there is one
abbrev pub loads_without : ℕ → ConnTable → List Load
loads_without key table = option_map_or (λ conn. option_map_or (λ bytes. slice_set table.loads.items conn.client (load_without bytes (load_of table conn.client))) conn.waits table.loads.items) (get table.conns key) table.loads.items

-- the bytes that wait of all clients, without those of the connection at a key
abbrev pub bytes_without : ℕ → ConnTable → ℕ
bytes_without key table = table.bytes - unwrap_or (waits_at table key) 0

-- nothing begins to wait, and nothing ends
pub record SameLoads (old new : ConnTable) : Type 0 where
  pub loads : new.loads ≡ old.loads
  pub bytes : new.bytes ≡ old.bytes

-- with one more request of this client, whose body counts as so many bytes, the load is within the limits
abbrev pub fits : ℕ → ℕ → ConnTable → Bool
fits client bytes table = nat_lt client (length table.loads.items) && may_wait_beside (load_of table client) table.bytes bytes

-- a request of this client waits from now on, whose body counts as so many bytes
pub record StartsWait (client bytes : ℕ) (old new : ConnTable) : Type 0 where
  pub within : IsTrue (fits client bytes old)
  pub load : new.loads.items ≡ slice_set old.loads.items client (load_with bytes (load_of old client))
  pub all : new.bytes ≡ old.bytes + bytes

abbrev pub answered : ConnEntry → ConnEntry
answered conn = record conn { waits = None }

abbrev pub waiting : ℕ → ConnEntry → ConnEntry
waiting bytes conn = record conn { waits = Some bytes }

-- whose request it is: the client that asks, or, where that is anonymous, the one that has the connection
abbrev pub asker : Actor → ConnEntry → ℕ
asker Nobody conn = conn.client
asker Author conn = index_of Author
asker (Operator place) conn = index_of (Operator place)

-- it wasn't told to close, and no request of it waits
abbrev pub is_free : ConnEntry → Bool
is_free conn = not conn.is_closing && is_none conn.waits

abbrev pub MatchAdmittance : Admittance → (Actor → Type 0) → Type 0 → Type 0
MatchAdmittance (Admitted actor) P Q = P actor
MatchAdmittance Busy P Q = Q

-- the idle connections of each client: since when, the oldest first, and under which key
abbrev pub idle_lists : ConnTable → List (List (ℕ × ℕ))
idle_lists table = map (λ idle. idle.entries) table.idle.items

abbrev pub idle_of : ConnTable → ℕ → List (ℕ × ℕ)
idle_of table client = slice_index_or (idle_lists table) client []

abbrev pub busy : ConnEntry → ConnEntry
busy conn = record conn { since = None }

-- the client of the connection at a key, if there is one
abbrev pub client_at : ConnTable → ℕ → Option ℕ
client_at table key = option_map (λ conn. conn.client) (get table.conns key)

-- since when the connection at a key is idle, if it is
abbrev pub since_at : ConnTable → ℕ → Option ℕ
since_at table key = option_and_then (λ conn. conn.since) (get table.conns key)

abbrev pub idle_since : Option ℕ → ConnEntry → ConnEntry
idle_since since conn = record conn { since = since }

-- the idle connections without the one at a key
abbrev pub idle_without : ℕ → ConnTable → List (List (ℕ × ℕ))
idle_without key table = option_map_or (λ conn. option_map_or (λ since. slice_set (idle_lists table) conn.client (remove_entry (is_at (nat_cmp since)) (idle_of table conn.client))) conn.since (idle_lists table)) (get table.conns key) (idle_lists table)

-- the idle connections with the one at a key, which is idle since then, if it is
abbrev pub idle_with : ℕ → Option ℕ → ConnTable → List (List (ℕ × ℕ))
idle_with key None table = idle_without key table
idle_with key (Some since) table = option_map_or (λ conn. slice_set (idle_without key table) conn.client (insert_entry nat_cmp (slice_index_or (idle_without key table) conn.client []) since key)) (get table.conns key) (idle_without key table)

abbrev pub closing : ConnEntry → ConnEntry
closing conn = record conn { since = None; is_closing = true }

-- the key of the first of these connections
abbrev pub first_key : List (ℕ × ℕ) → Option ℕ
first_key [] = None
first_key (oldest ∷ rest) = Some oldest.1

-- the key of a client's oldest idle connection, if one is idle
abbrev pub oldest_of : ConnTable → ℕ → Option ℕ
oldest_of table client = first_key (idle_of table client)

-- the connection at this key, if one is given, is told to close; others stay
abbrev pub ClosesAt : Option ℕ → Slab ConnEntry → Slab ConnEntry → Type 0
ClosesAt None old new = new ≡ old
ClosesAt (Some key) old new = Updates old new key (option_map closing (get old key))

-- the oldest idle connection of a client is told to close; false, where none is idle
pub record ClosesOldest (client : ℕ) (is_closing : Bool) (old new : ConnTable) : Type 0 where
  pub found : is_closing ≡ is_some (oldest_of old client)
  pub conns : ClosesAt (oldest_of old client) old.conns new.conns
  pub idle : idle_lists new ≡ slice_set (idle_lists old) client (drop 1 (idle_of old client))

-- what is decided for one more connection of a client is done
abbrev pub Follows : Decision → ℕ → Bool → ConnTable → ConnTable → Type 0
Follows Take client given old new = (given ≡ true) × (new ≡ record old { counts = new.counts; all = new.all }) × (counts_of new ≡ counted client (counts_of old))
Follows (Close place) client given old new = ClosesOldest place given old new × (counts_of new ≡ uncounted (if given then place else client) (counted client (counts_of old)))

-- by the counts with it, one more connection of a client takes a slot, or one is closed for it
pub record TakesSlot (client : ℕ) (given : Bool) (old new : ConnTable) : Type 0 where
  pub free : IsFalse (is_over (counted client (counts_of old)).each client) → IsFalse (is_full (counted client (counts_of old)).each (counted client (counts_of old)).all) → Follows Take client given old new
  pub own : IsTrue (is_over (counted client (counts_of old)).each client) → Follows (Close client) client given old new
  pub most : IsFalse (is_over (counted client (counts_of old)).each client) → IsTrue (is_full (counted client (counts_of old)).each (counted client (counts_of old)).all)
      → (place : ℕ) × HasMost (counted client (counts_of old)).each place × Follows (Close place) client given old new

-- by the counts with it, one more connection of a client has a slot, maybe in the place of another
pub record GivesSlot (client : ℕ) (before after : Counts) : Type 0 where
  pub free : IsFalse (is_over (counted client before).each client) → IsFalse (is_full (counted client before).each (counted client before).all) → after ≡ counted client before
  pub own : IsTrue (is_over (counted client before).each client) → after ≡ uncounted client (counted client before)
  pub most : IsFalse (is_over (counted client before).each client) → IsTrue (is_full (counted client before).each (counted client before).all)
      → (place : ℕ) × HasMost (counted client before).each place × (after ≡ uncounted place (counted client before))

-- an anonymous connection of which no request waits
pub record IsNew (conn : ConnEntry) : Type 0 where
  pub client : conn.client ≡ index_of Nobody
  pub stays : conn.is_closing ≡ false
  pub waits : conn.waits ≡ None
