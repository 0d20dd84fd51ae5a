-- Who gets a connection slot. Counts are those of anonymous, of the author and of each operator, and include the
-- connection
-- that wants a slot.
use Rattle.std.specs.Prelude.{ℕ, ◌-◌, ◌==◌, ◌≤◌, List, drop, Bool, nat_lt, slice_index, EachIndex, count_by, if◌then◌else◌}
use Rattle.server_admission.specs.declared.limits.TheConstants.{MOST_CONNECTIONS, MOST_ANONYMOUS, MOST_OF_CLIENT}

-- anonymous comes first
abbrev pub most_of : ℕ → ℕ
most_of client = if client == 0 then MOST_ANONYMOUS else MOST_OF_CLIENT

-- the client has more connections than it may
abbrev pub is_over : List ℕ → ℕ → Bool
is_over counts client = nat_lt (most_of client) (slice_index counts client)

-- how many clients have no connection; anonymous isn't counted among them
abbrev pub without_any : List ℕ → ℕ
without_any counts = count_by (λ count. count == 0) (drop 1 counts)

-- there are more connections than slots, less one slot reserved for each client that has no connection
abbrev pub is_full : List ℕ → ℕ → Bool
is_full counts all = nat_lt (MOST_CONNECTIONS - without_any counts) all

-- no client has more connections
abbrev pub HasMost : List ℕ → ℕ → Type 0
HasMost counts place = EachIndex counts (λ other. slice_index counts other ≤ slice_index counts place)
