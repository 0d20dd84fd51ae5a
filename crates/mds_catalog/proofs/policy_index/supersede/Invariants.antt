use Rattle.std.proofs.Common.{◌≡◌, map, drop}
use Rattle.mds_policy.specs.Policy.{policy_document}
use Rattle.mds_catalog.specs.Index.{after_successors}
use Rattle.mds_catalog.proofs.policy_index.supersede.Given as goal

-- the policies from here on make of the entries what all make of the initial ones
abbrev pub invariant-loop-policy : goal.invariant-loop-policy
invariant-loop-policy l =
    after_successors l.moment (map (λ share. policy_document share.value) (drop l.policy-index l.policies)) l.entries
    ≡ after_successors l.moment (map (λ share. policy_document share.value) l.policies) l.initial.entries
