use Rattle.std.proofs.Common.{◌≡◌, ◌++◌, map, take}
use Rattle.mds_policy.specs.Policy.{policy_document}
use Rattle.mds_catalog.specs.Publication.{publications_in, published_policies, dated}
use Rattle.mds_catalog.specs.Catalogue.{lent_policy}
use Rattle.mds_catalog.proofs.lists.policy_refs.Given as goal

-- those of the batches before this one, then those of this one up to here
abbrev pub invariant-loop-policy : goal.invariant-loop-policy
invariant-loop-policy l =
    map lent_policy l.lent.items
    ≡ published_policies (publications_in (take l.share-index l.batches)) ++ map (dated l.batch.moment) (map (λ share. policy_document share.value) (take l.policy-index l.batch.policies.items))

-- those of the batches before this one
abbrev pub invariant-loop-share : goal.invariant-loop-share
invariant-loop-share l = map lent_policy l.lent.items ≡ published_policies (publications_in (take l.share-index l.batches))
