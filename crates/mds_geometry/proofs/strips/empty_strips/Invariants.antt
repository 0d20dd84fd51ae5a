use Rattle.std.proofs.Common.{◌≡◌, ℕ, length, get_or, []}
use Rattle.mds_geometry.proofs.strips.empty_strips.Given as goal

abbrev pub invariant-loop-room : goal.invariant-loop-room
invariant-loop-room l = record {
  count : length l.all.items ≡ l.room-index;
  empty : (s : ℕ) → get_or l.all.items s [] ≡ [];
}
