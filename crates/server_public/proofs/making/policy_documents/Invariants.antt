use Rattle.std.proofs.Common.{◌≡◌, map, take}
use Rattle.mds_catalog.specs.Catalogue.{lent_policy, publications_of}
use Rattle.server_public.specs.Documents.{policy_notice}
use Rattle.server_public.specs.View.{notice}
use Rattle.server_public.proofs.making.policy_documents.Given as goal

-- those of the policies so far
abbrev pub invariant-loop-policy : goal.invariant-loop-policy
invariant-loop-policy l = map notice l.notices.items ≡ map (policy_notice (publications_of l.catalogue)) (map lent_policy (take l.policy-index l.policies))
