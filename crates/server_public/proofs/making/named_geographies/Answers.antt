use Rattle.std.proofs.Common.{map, filter, ap, sym, ◌∙◌, rules, Bool}
use Rattle.std.specs.List.{list_any}
use Rattle.std.proofs.lemmas.Fn.{filter_same}
use Rattle.mds_geography.specs.Geography.{Geography}
use Rattle.mds_catalog.specs.Catalogue.{lent_geography, lent_policy, publications_of}
use Rattle.mds_catalog.specs.Publication.{Published, published_geographies}
use Rattle.mds_catalog.proofs.Lent.{map-filter}
use Rattle.server_public.specs.Documents.{names, public_policies}
use Rattle.server_public.proofs.Listed.{any_map, filter_alike}
use Rattle.server_public.proofs.making.named_geographies.Goals as goal

pub returns : goal.returns
returns c =
    let policies = c.args.policies.now in
    let publications = publications_of c.args.catalogue.now in
    let named : Published Geography → Bool = λ g. list_any (λ p. names g.document.id (lent_policy p)) policies in
    ap (map lent_geography) (filter_same _ (λ g. named (lent_geography g)) _ (λ x b f' k. search rules) _ _ c.retain.ensures.filtered)
    ∙ map-filter lent_geography named c.in_ok-geographies.geographies.items
    ∙ ap (filter named) c.in_ok-geographies.ensures
    ∙ filter_alike named (λ g. list_any (names g.document.id) (public_policies publications))
    (λ g. sym (any_map (names g.document.id) lent_policy policies) ∙ ap (list_any (names g.document.id)) c.requires) (published_geographies publications)
