use Rattle.std.proofs.Common.{◌≡◌, length}
use Rattle.journal_file.specs.Marks.{further, furthest_said}
use Rattle.journal_file.proofs.marks.furthest_synced_end.Given as goal

-- the furthest so far and the furthest from here on give the furthest
abbrev pub invariant-loop-behind : goal.invariant-loop-behind
invariant-loop-behind l = further l.most (furthest_said l.rest) ≡ furthest_said l.fn.bytes

abbrev pub decreases-loop-behind : goal.decreases-loop-behind
decreases-loop-behind l = length l.rest
