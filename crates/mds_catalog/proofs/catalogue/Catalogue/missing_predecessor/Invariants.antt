use Rattle.std.specs.List.{flat_map}
use Rattle.std.proofs.Common.{◌≡◌, find, not, drop, map}
use Rattle.mds_policy.specs.Policy.{policy_document}
use Rattle.mds_catalog.specs.Publication.{is_policy_published, publications_in}
use Rattle.mds_catalog.proofs.catalogue.Catalogue.missing_predecessor.Given as goal

-- the search in the rest finds what the one in the whole list does
abbrev pub invariant-loop-policy : goal.invariant-loop-policy
invariant-loop-policy l =
    find (λ id. not (is_policy_published (publications_in l.self.batches.items) id)) (flat_map (λ policy. policy.previous) (map (λ share. policy_document share.value) (drop l.policy-index l.batch.policies.items)))
    ≡ find (λ id. not (is_policy_published (publications_in l.self.batches.items) id)) (flat_map (λ policy. policy.previous) (map (λ share. policy_document share.value) (l.batch.policies.items)))
