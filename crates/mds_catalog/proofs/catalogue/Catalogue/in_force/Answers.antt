use Rattle.std.proofs.Common.{map, filter, ap, ◌∙◌, rules}
use Rattle.std.proofs.lemmas.Fn.{filter_same}
use Rattle.mds_catalog.specs.Publication.{is_in_force, published_policies, publications_in}
use Rattle.mds_catalog.specs.Catalogue.{lent_policy, publications_of}
use Rattle.mds_catalog.proofs.Lent.{map-filter}
use Rattle.mds_catalog.proofs.catalogue.Catalogue.in_force.Goals as goal

pub returns : goal.returns
returns c =
    ap (map lent_policy) (filter_same _ (λ p. is_in_force (publications_of c.args.self.now) c.args.operator c.args.at (lent_policy p)) _ (λ x b f' k. search rules) _ _ c.retain.ensures.filtered)
    ∙ map-filter lent_policy (is_in_force (publications_of c.args.self.now) c.args.operator c.args.at) c.in_ok-policies.policies.items
    ∙ ap (filter (is_in_force (publications_of c.args.self.now) c.args.operator c.args.at)) (c.in_ok-policies.ensures ∙ ap (λ batches. published_policies (publications_in batches)) c.deref.ensures.value)
