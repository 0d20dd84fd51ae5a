use Rattle.std.proofs.Common.{◌≡◌, ◌++◌, length, map}
use Rattle.journal_entry.specs.Heads.{AreShares, share_of, shares_text}
use Rattle.journal_entry.proofs.head.shares_in.Given as goal

abbrev pub invariant-loop-rest : goal.invariant-loop-rest
invariant-loop-rest l =
    (l.fn.bytes ≡ shares_text (map share_of l.shares.items) ++ l.rest) × AreShares (map share_of l.shares.items)

abbrev pub decreases-loop-rest : goal.decreases-loop-rest
decreases-loop-rest l = length l.rest
