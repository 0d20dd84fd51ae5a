-- What two passes over a journal's entries know of a device: forwards the state before, and backwards what comes after.
use Rattle.std.specs.Prelude.{ℕ, ◌&&◌, Bool, true, false, List, [], ◌∷◌, bytes_eq, if◌then◌else◌, Option, Some, None}
use Rattle.std.specs.declared.cmp.Ordering.{Ordering}
use Rattle.std.specs.Ordering.{nat_cmp, ordering_then}
use Rattle.std.specs.Cmp.Lexicographic.{slice_cmp}
use Rattle.journal_compaction.specs.declared.kind.Device.{Device}
use Rattle.journal_compaction.specs.declared.kind.EntryKind.{EntryKind}
use Rattle.journal_compaction.specs.declared.kind.EntryKind.TheVariants.{Report, Removal, Other}
use Rattle.journal_compaction.specs.declared.kind.LaterEntries.{LaterEntries}
use Rattle.journal_compaction.specs.declared.kind.LaterEntries.TheVariants.{Run, Settled}
use Rattle.journal_compaction.specs.Staying.{is_same, begins, state_before}

-- devices in the order of a map
abbrev pub device_cmp : Device → Device → Ordering
device_cmp a b = ordering_then (nat_cmp a.operator b.operator) (slice_cmp nat_cmp a.id b.id)

-- whether a report begins a run of its state
abbrev pub begins_at : List EntryKind → EntryKind → Bool
begins_at before (Report device state) = begins state (state_before device before)
begins_at before kind = false

abbrev pub beginnings : List EntryKind → List EntryKind → List Bool
beginnings before [] = []
beginnings before (kind ∷ behind) = begins_at before kind ∷ beginnings (kind ∷ before) behind

-- what comes at and after a report of this state
abbrev pub joined : List ℕ → Option LaterEntries → LaterEntries
joined state None = Run state
joined state (Some (Run other)) = if bytes_eq other state then Run state else Settled
joined state (Some Settled) = Settled

-- what these entries have of a device
abbrev pub ahead_of : Device → List EntryKind → Option LaterEntries
ahead_of device [] = None
ahead_of device (Report other state ∷ behind) =
    if is_same other device then Some (joined state (ahead_of device behind)) else ahead_of device behind
ahead_of device (Removal other ∷ behind) = if is_same other device then Some Settled else ahead_of device behind
ahead_of device (Other ∷ behind) = ahead_of device behind

-- whether a report stays, by what comes after it, and by whether it begins a run
abbrev pub stays_by : List ℕ → Bool → Option LaterEntries → Bool
stays_by state is_beginning None = true
stays_by state is_beginning (Some (Run other)) = bytes_eq other state && is_beginning
stays_by state is_beginning (Some Settled) = false

abbrev pub stays_at : EntryKind → Bool → List EntryKind → Bool
stays_at Other is_beginning behind = true
stays_at (Removal device) is_beginning behind = false
stays_at (Report device state) is_beginning behind = stays_by state is_beginning (ahead_of device behind)
