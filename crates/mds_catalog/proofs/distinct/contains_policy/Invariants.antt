use Rattle.std.proofs.Common.{◌≡◌, map, drop}
use Rattle.mds_policy.specs.Policy.{policy_document}
use Rattle.mds_catalog.specs.Publication.{is_among}
use Rattle.mds_catalog.proofs.distinct.contains_policy.Given as goal

-- the identifier is in the rest where it is in the whole list
abbrev pub invariant-loop-policy : goal.invariant-loop-policy
invariant-loop-policy l =
    is_among (map (λ d. d.id) (map (λ share. policy_document share.value) (drop l.policy-index l.policies))) l.id
    ≡ is_among (map (λ d. d.id) (map (λ share. policy_document share.value) l.policies)) l.id
