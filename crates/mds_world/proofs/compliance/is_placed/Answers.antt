use Rattle.std.proofs.Common.{sym, ap, ◌∙◌}
use Rattle.std.specs.List.{list_all}
use Rattle.std.proofs.lemmas.List.Folds.{list_all-map}
use Rattle.mds_policy.specs.Policy.{Rule, rule_document}
use Rattle.mds_catalog.specs.Catalogue.{publications_of}
use Rattle.mds_catalog.specs.Publication.{is_geography_published}
use Rattle.mds_world.proofs.compliance.is_placed.Goals as goal

pub returns : goal.returns
returns c =
    let test = λ (rule : Rule). list_all (is_geography_published (publications_of c.args.catalogue.now)) rule.geographies in
    c.are_placed.ensures ∙ sym (list_all-map test rule_document c.rules.result.now) ∙ ap (list_all test) c.rules.ensures
