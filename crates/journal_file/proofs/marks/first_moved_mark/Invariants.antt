use Rattle.std.proofs.Common.{◌≡◌, ◌+◌, length}
use Rattle.journal_file.specs.Marks.{first_moved}
use Rattle.journal_file.proofs.marks.first_moved_mark.Given as goal

-- the first from here on is the first
abbrev pub invariant-loop-behind : goal.invariant-loop-behind
invariant-loop-behind l =
    record {
      first : first_moved l.at l.rest ≡ first_moved l.fn.position l.fn.bytes;
      at : l.at + length l.rest ≡ l.fn.position + length l.fn.bytes;
    }

abbrev pub decreases-loop-behind : goal.decreases-loop-behind
decreases-loop-behind l = length l.rest
