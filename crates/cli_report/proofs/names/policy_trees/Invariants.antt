use Rattle.std.proofs.Common.{◌≡◌, map, take}
use Rattle.mds_catalog.specs.Catalogue.{lent_policy}
use Rattle.cli_report.specs.Names.{tree_policy}
use Rattle.cli_report.proofs.names.policy_trees.Given as goal

-- the documents so far
abbrev pub invariant-loop-published : goal.invariant-loop-published
invariant-loop-published l = map tree_policy l.trees.items ≡ map (λ p. p.document) (map lent_policy (take l.published-index l.policies))
