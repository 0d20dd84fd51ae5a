use Rattle.std.proofs.Common.{◌≡◌, ◌++◌, ◌+◌, ◌<◌, ◌≤◌, ℕ, length, get_or, [], ◌∷◌, cond, ◌&&◌}
use Rattle.std.specs.Prelude.{nat_le, nat_lt}
use Rattle.mds_geometry.proofs.strips.add_between.Given as goal

abbrev pub invariant-loop-place : goal.invariant-loop-place
invariant-loop-place l = record {
  whole : length l.all ≡ length l.fn.all;
  begun : l.south ≤ l.place;
  ended : l.place ≤ l.north + 1;
  filed : (s : ℕ) → s < length l.fn.all → get_or l.all s [] ≡ get_or l.fn.all s [] ++ cond (nat_le l.south s && nat_lt s l.place) (l.start ∷ []) [];
}
