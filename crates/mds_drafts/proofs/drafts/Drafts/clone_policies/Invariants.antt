use Rattle.std.proofs.Common.{◌≡◌, ◌++◌, map, drop}
use Rattle.std.specs.List.{filter_map}
use Rattle.std.specs.FinMap.{get}
use Rattle.mds_policy.specs.Policy.{policy_document}
use Rattle.mds_drafts.specs.Entries.{drafts_in}
use Rattle.mds_drafts.proofs.drafts.Drafts.clone_policies.Given as goal

-- the references so far and those of the rest are those of the whole list
abbrev pub invariant-loop-id : goal.invariant-loop-id
invariant-loop-id l =
    map (λ share. policy_document share.value) l.shares.items ++ filter_map (get (drafts_in l.self.items.items).policies) (drop l.id-index l.ids)
    ≡ filter_map (get (drafts_in l.self.items.items).policies) l.ids
