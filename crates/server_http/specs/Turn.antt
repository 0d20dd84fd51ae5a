-- The turn of an answer in its client's queue.
use Rattle.std.specs.Prelude.{◌≡◌, ℕ, ⊤, Bool, true, false, Result, IfOk}
use Rattle.tokio.specs.Locks.{CanAcquire, OwnedAcquireNeeds, owned_num_permits, owned_permits_wanted}
use Rattle.tokio.specs.declared.sync.semaphore.AcquireError.{AcquireError}
use Rattle.server_http.specs.declared.turn.LineState.{LineState}
use Rattle.server_http.specs.declared.turn.LineState.TheVariants.{Open, Waiting, Held}
use Rattle.server_http.specs.declared.turn.Permits.{Permits}
use Rattle.server_http.specs.declared.turn.Turn.{Turn}

-- the line is for long answers: one alone at a time waits for the permits
abbrev pub is_for_line : LineState → Bool
is_for_line Open = false
is_for_line (Waiting line) = true
is_for_line (Held permit) = true

abbrev pub is_held : LineState → Bool
is_held Open = false
is_held (Waiting line) = false
is_held (Held permit) = true

abbrev pub CanEnter : LineState → Type 0
CanEnter Open = ⊤
CanEnter (Waiting line) = CanAcquire line
CanEnter (Held permit) = ⊤

-- the turn isn't over
abbrev pub IsWaiting : Turn → Type 0
IsWaiting turn = CanEnter turn.line × CanAcquire turn.permits

-- how many permits it is for
abbrev pub permits_of : Turn → ℕ
permits_of turn = owned_permits_wanted turn.permits

-- a turn that is over holds so many permits, and the line where it is for the line
abbrev pub Holds : Turn → Result Permits AcquireError → Type 0
Holds turn given = IfOk given (λ held. (owned_num_permits held.permits ≡ permits_of turn) × (is_held held.line ≡ is_for_line turn.line))

-- the source that it waits for: that of the line first
abbrev pub needs_of : LineState → Turn → ℕ → Type 0
needs_of Open turn = OwnedAcquireNeeds turn.permits
needs_of (Waiting line) turn = OwnedAcquireNeeds line
needs_of (Held permit) turn = OwnedAcquireNeeds turn.permits
