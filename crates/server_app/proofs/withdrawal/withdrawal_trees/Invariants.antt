use Rattle.std.proofs.Common.{◌≡◌, map, take}
use Rattle.std.specs.List.{filter_map}
use Rattle.mds_text.specs.View.{view}
use Rattle.mds_catalog.specs.Catalogue.{lent_policy, publications_of}
use Rattle.server_app.specs.Withdrawals.{withdrawal_of}
use Rattle.server_app.proofs.withdrawal.withdrawal_trees.Given as goal

-- those of the policies so far
abbrev pub invariant-loop-policy : goal.invariant-loop-policy
invariant-loop-policy l = map view l.trees.items ≡ filter_map (withdrawal_of (publications_of l.catalogue)) (map lent_policy (take l.policy-index l.policies))
