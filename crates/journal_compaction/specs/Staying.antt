-- Which entries of a journal stay, by their kinds.
use Rattle.std.specs.Prelude.{ℕ, ◌==◌, ◌&&◌, ◌||◌, Bool, true, false, not, List, [], ◌∷◌, bytes_eq, if◌then◌else◌, Option, Some, None}
use Rattle.std.specs.List.{list_all, list_any}
use Rattle.journal_compaction.specs.declared.kind.Device.{Device}
use Rattle.journal_compaction.specs.declared.kind.EntryKind.{EntryKind}
use Rattle.journal_compaction.specs.declared.kind.EntryKind.TheVariants.{Report, Removal, Other}

abbrev pub is_same : Device → Device → Bool
is_same device other = (device.operator == other.operator) && bytes_eq device.id other.id

-- the removal of a device
abbrev pub is_removal : Device → EntryKind → Bool
is_removal device (Removal other) = is_same other device
is_removal device kind = false

-- the states in a device's reports, in their order
abbrev pub states_of : Device → List EntryKind → List (List ℕ)
states_of device [] = []
states_of device (Report other state ∷ kinds) = if is_same other device then state ∷ states_of device kinds else states_of device kinds
states_of device (kind ∷ kinds) = states_of device kinds

-- the state of a device after these, of which the last one comes first: that of its last report since its last removal
abbrev pub state_before : Device → List EntryKind → Option (List ℕ)
state_before device [] = None
state_before device (Report other state ∷ before) = if is_same other device then Some state else state_before device before
state_before device (Removal other ∷ before) = if is_same other device then None else state_before device before
state_before device (Other ∷ before) = state_before device before

-- a report of this state begins a run after another state, and after none
abbrev pub begins : List ℕ → Option (List ℕ) → Bool
begins state None = true
begins state (Some other) = not (bytes_eq other state)

abbrev pub is_none : List (List ℕ) → Bool
is_none [] = true
is_none (state ∷ states) = false

-- Whether an entry stays, where these come before it, the last one first, and these after it. A report stays if no
-- removal of its device comes after it, and either no report of it does, so that it is the last, or those that do have
-- its state and the one before hasn't, so that it begins the run of the last one's state.
abbrev pub stays : List EntryKind → EntryKind → List EntryKind → Bool
stays before Other behind = true
stays before (Removal device) behind = false
stays before (Report device state) behind =
    not (list_any (is_removal device) behind)
    && (is_none (states_of device behind)
    || (list_all (bytes_eq state) (states_of device behind) && begins state (state_before device before)))

-- which of the entries stay that come after these
abbrev pub staying : List EntryKind → List EntryKind → List Bool
staying before [] = []
staying before (kind ∷ behind) = stays before kind behind ∷ staying (kind ∷ before) behind

-- the entries that are marked
abbrev pub picked : {A : Type 0} → List Bool → List A → List A
picked [] entries = []
picked (mark ∷ marks) [] = []
picked (true ∷ marks) (entry ∷ entries) = entry ∷ picked marks entries
picked (false ∷ marks) (entry ∷ entries) = picked marks entries
