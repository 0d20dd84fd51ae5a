use Rattle.std.proofs.Common.{◌≡◌, map, take}
use Rattle.mds_policy.specs.Policy.{policy_document}
use Rattle.mds_catalog.specs.Texts.{policy_text}
use Rattle.mds_catalog.proofs.print.print_policies.Given as goal

-- the texts of the policies up to here
abbrev pub invariant-loop-policy : goal.invariant-loop-policy
invariant-loop-policy l =
    map (λ t. t.items) l.texts.items ≡ map (policy_text l.moment) (map (λ share. policy_document share.value) (take l.policy-index l.policies))
