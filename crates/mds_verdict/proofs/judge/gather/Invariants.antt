use Rattle.std.proofs.Common.{map, take}
use Rattle.mds_policy.specs.Policy.{policy_document}
use Rattle.mds_match.specs.Row.{row_of}
use Rattle.mds_verdict.specs.Gathered.{IsTally}
use Rattle.mds_verdict.proofs.judge.gather.Given as goal

-- the vehicles so far are counted
abbrev pub invariant-loop-vehicle : goal.invariant-loop-vehicle
invariant-loop-vehicle g l =
    IsTally l.tally (policy_document l.policy) (g.P.Places.polygons l.places) (map (λ v. row_of v.now) (take l.vehicle-index l.vehicles)) l.fn.local l.moment
