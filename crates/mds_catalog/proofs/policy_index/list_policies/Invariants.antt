use Rattle.std.proofs.Common.{◌≡◌, map, take, vec_capacity}
use Rattle.mds_policy.specs.Policy.{policy_document}
use Rattle.mds_catalog.specs.Listed.{Lists, spots_from}
use Rattle.mds_catalog.specs.Index.{fresh}
use Rattle.mds_catalog.proofs.policy_index.list_policies.Given as goal

-- the policies before this one have entries
abbrev pub invariant-loop-place : goal.invariant-loop-place
invariant-loop-place l =
    record {
      listed : Lists (λ e. e.spot.id) l.initial.entries.items l.entries.items (map fresh (spots_from l.batch 0 (map (λ share. (policy_document share.value).id) (take l.place l.policies))));
      capacity : vec_capacity l.entries ≡ vec_capacity l.initial.entries;
    }
