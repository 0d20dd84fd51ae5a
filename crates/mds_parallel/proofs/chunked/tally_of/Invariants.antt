use Rattle.std.proofs.Common.{map, take}
use Rattle.mds_policy.specs.Policy.{policy_document}
use Rattle.mds_match.specs.Row.{row_of}
use Rattle.mds_parallel.specs.Chunks.{IsTallyBy}
use Rattle.mds_parallel.specs.Served.{IsTableOf}
use Rattle.mds_parallel.proofs.chunked.tally_of.Given as goal

-- the vehicles so far are counted, and the table is right
abbrev pub invariant-loop-vehicle : goal.invariant-loop-vehicle
invariant-loop-vehicle l = record {
  served : IsTableOf l.resolved l.table;
  counted : IsTallyBy l.resolved (policy_document l.policy) (map (λ v. row_of v.now) (take l.vehicle-index l.chunk)) l.fn.local l.moment l.tally;
}
