use Rattle.std.proofs.Common.{◌≡◌, map, drop}
use Rattle.mds_catalog.specs.Catalogue.{lent_policy, publications_of}
use Rattle.server_public.specs.Documents.{last, touched}
use Rattle.server_public.proofs.making.last_update.Given as goal

-- with the policies that are left it is the result
abbrev pub invariant-loop-policy : goal.invariant-loop-policy
invariant-loop-policy l =
    last l.updated (map (touched (publications_of l.catalogue)) (map lent_policy (drop l.policy-index l.policies)))
    ≡ last 0 (map (touched (publications_of l.catalogue)) (map lent_policy l.policies))
