use Rattle.std.proofs.Common.{ℕ, ◌<◌, ◌≤◌, get_or}
use Rattle.server_admission.proofs.slot.fullest.Given as goal

-- no client before this index has more connections, and the fullest so far has that many
abbrev pub invariant-loop-place : goal.invariant-loop-place
invariant-loop-place l = ((k : ℕ) → k < l.place → get_or l.counts k 0 ≤ l.held) × (l.held ≤ get_or l.counts l.most 0)
