use Rattle.std.proofs.Common.{◌≡◌, map, drop}
use Rattle.mds_policy.specs.Policy.{policy_document}
use Rattle.mds_catalog.specs.Publication.{are_distinct}
use Rattle.mds_catalog.proofs.batch.Batch.policies_differ.Given as goal

-- the rest is distinct where the whole list is
abbrev pub invariant-loop-i : goal.invariant-loop-i
invariant-loop-i l =
    are_distinct (map (λ d. d.id) (map (λ share. policy_document share.value) (drop l.i l.self.policies.items)))
    ≡ are_distinct (map (λ d. d.id) (map (λ share. policy_document share.value) l.self.policies.items))
