use Rattle.std.proofs.Common.{◌≡◌, take}
use Rattle.std.specs.List.{find, position}
use Rattle.mds_match.specs.Resolved.{meets_number, resolved_meets}
use Rattle.mds_match.specs.Row.{Row}
use Rattle.mds_match.proofs.resolved.ResolvedPolicy.candidates.Given as goal

-- the first rule so far that a row meets is the first among the indices so far
abbrev pub invariant-loop-number : goal.invariant-loop-number
invariant-loop-number l =
    (row : Row) → row.vehicle_type ≡ l.vehicle_type → row.state ≡ l.state
    → find (meets_number l.self row) l.numbers.items ≡ position (λ rule. resolved_meets rule row) (take l.number l.rule-items)
