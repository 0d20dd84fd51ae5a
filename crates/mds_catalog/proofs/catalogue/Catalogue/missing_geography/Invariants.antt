use Rattle.std.specs.List.{flat_map}
use Rattle.std.proofs.Common.{◌≡◌, find, not, drop, map}
use Rattle.mds_policy.specs.Policy.{policy_document}
use Rattle.mds_catalog.specs.Publication.{is_geography_there, publications_in, publication_of}
use Rattle.mds_catalog.proofs.catalogue.Catalogue.missing_geography.Given as goal

-- the search in the rest finds what the one in the whole list does
abbrev pub invariant-loop-policy : goal.invariant-loop-policy
invariant-loop-policy l =
    find (λ id. not (is_geography_there (publications_in l.self.batches.items) (publication_of l.batch) id)) (flat_map (λ policy. flat_map (λ rule. rule.geographies) policy.rules) (map (λ share. policy_document share.value) (drop l.policy-index l.batch.policies.items)))
    ≡ find (λ id. not (is_geography_there (publications_in l.self.batches.items) (publication_of l.batch) id)) (flat_map (λ policy. flat_map (λ rule. rule.geographies) policy.rules) (map (λ share. policy_document share.value) (l.batch.policies.items)))
