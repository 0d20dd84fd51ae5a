use Rattle.std.proofs.Common.{map, filter, ap, ◌∙◌, rules}
use Rattle.std.proofs.lemmas.Fn.{filter_same}
use Rattle.mds_catalog.specs.Catalogue.{lent_policy}
use Rattle.mds_catalog.proofs.Lent.{map-filter}
use Rattle.server_public.specs.Documents.{is_public}
use Rattle.server_public.proofs.making.public_policies.Goals as goal

pub returns : goal.returns
returns c =
    ap (map lent_policy) (filter_same _ (λ p. is_public (lent_policy p)) _ (λ x b f' k. search rules) _ _ c.retain.ensures.filtered)
    ∙ map-filter lent_policy is_public c.in_ok-policies.policies.items
    ∙ ap (filter is_public) c.in_ok-policies.ensures
