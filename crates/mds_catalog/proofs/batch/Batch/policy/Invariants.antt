use Rattle.std.proofs.Common.{◌≡◌, find, bytes_eq, map, drop}
use Rattle.mds_policy.specs.Policy.{policy_document}
use Rattle.mds_catalog.proofs.batch.Batch.policy.Given as goal

-- the search in the rest finds what the one in the whole list does
abbrev pub invariant-loop-policy : goal.invariant-loop-policy
invariant-loop-policy l =
    find (λ p. bytes_eq p.id l.id) (map (λ share. policy_document share.value) (drop l.policy-index l.self.policies.items))
    ≡ find (λ p. bytes_eq p.id l.id) (map (λ share. policy_document share.value) l.self.policies.items)
