use Rattle.std.proofs.Common.{◌≡◌, ◌++◌, map, take}
use Rattle.mds_policy.specs.Policy.{policy_document}
use Rattle.mds_catalog.specs.Publication.{publications_in, published_policies, dated}
use Rattle.mds_catalog.proofs.Texts.{shown_texts}
use Rattle.mds_catalog.proofs.lists.policy_text_refs.Given as goal

-- those of the batches before this one, then those of this one up to here
abbrev pub invariant-loop-place : goal.invariant-loop-place
invariant-loop-place l =
    map (λ t. t.now) l.lent.items
    ≡ shown_texts l.operator (published_policies (publications_in (take l.share-index l.batches)) ++ map (dated l.batch.moment) (map (λ share. policy_document share.value) (take l.place l.batch.policies.items)))

-- those of the batches before this one
abbrev pub invariant-loop-share : goal.invariant-loop-share
invariant-loop-share l = map (λ t. t.now) l.lent.items ≡ shown_texts l.operator (published_policies (publications_in (take l.share-index l.batches)))
