use Rattle.std.proofs.Common.{◌≡◌, map, drop}
use Rattle.mds_policy.specs.Policy.{policy_document}
use Rattle.mds_geography.specs.Geography.{geography_document}
use Rattle.mds_catalog.specs.Publication.{publication_of, policy_ids}
use Rattle.mds_drafts.specs.Drafts.{without_keys}
use Rattle.mds_drafts.specs.Entries.{drafts_in}
use Rattle.mds_drafts.proofs.drafts.Drafts.take_out.Given as goal

-- the policies that are left to take out, and the geographies as they were
abbrev pub invariant-loop-policy : goal.invariant-loop-policy
invariant-loop-policy l =
    record {
      policies : without_keys (drafts_in l.self.items.items).policies (map (λ d. d.id) (map (λ share. policy_document share.value) (drop l.policy-index l.batch.policies.items)))
          ≡ without_keys (drafts_in l.fn.self.items.items).policies (policy_ids (publication_of l.batch));
      geographies : (drafts_in l.self.items.items).geographies ≡ (drafts_in l.fn.self.items.items).geographies;
    }

-- the policies without those of the batch, and the geographies that are left to take out
abbrev pub invariant-loop-geography : goal.invariant-loop-geography
invariant-loop-geography l =
    record {
      policies : (drafts_in l.self.items.items).policies ≡ without_keys (drafts_in l.fn.self.items.items).policies (policy_ids (publication_of l.batch));
      geographies : without_keys (drafts_in l.self.items.items).geographies (map (λ d. d.id) (map (λ share. geography_document share.value) (drop l.geography-index l.batch.geographies.items)))
          ≡ without_keys (drafts_in l.fn.self.items.items).geographies (map (λ d. d.id) (map (λ share. geography_document share.value) l.batch.geographies.items));
    }
