use Rattle.std.proofs.Common.{◌≡◌, None, take}
use Rattle.std.specs.List.{find}
use Rattle.mds_match.specs.Resolved.{meets_number}
use Rattle.mds_match.specs.Row.{row_of}
use Rattle.mds_match.proofs.resolved.ResolvedPolicy.first_among.Given as goal

-- no rule so far is met
abbrev pub invariant-loop-number : goal.invariant-loop-number
invariant-loop-number l = find (meets_number l.self (row_of l.vehicle)) (take l.number-index l.numbers) ≡ None
