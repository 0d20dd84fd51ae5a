use Rattle.std.proofs.Common.{sym, ap, ◌∙◌}
use Rattle.std.specs.List.{list_all}
use Rattle.std.proofs.lemmas.List.Folds.{list_all-map}
use Rattle.mds_catalog.specs.Catalogue.{publications_of, lent_policy}
use Rattle.mds_desk.specs.CacheKey.{is_everyones}
use Rattle.mds_desk.proofs.Answering.{everyones, named}
use Rattle.mds_desk.proofs.cache_key.policies_key.Goals as goal

pub returns-then-are_everyones : goal.returns-then-are_everyones
returns-then-are_everyones c =
    everyones (publications_of c.args.catalogue.now) c.args.operator
    (sym (ap (list_all is_everyones) c.in-Ok.ensures)
    ∙ list_all-map is_everyones lent_policy c.in-Ok.policies.items
    ∙ ap (list_all (λ p. is_everyones (lent_policy p))) (sym c.deref.ensures.value)
    ∙ sym c.are_everyones.ensures
    ∙ c.if-are_everyones.true)

pub returns : goal.returns
returns c = named (publications_of c.args.catalogue.now) c.args.operator
