use Rattle.std.proofs.Common.{◌≡◌, sym, subst, ◌∙◌}
use Rattle.mds_catalog.specs.Catalogue.{publications_of}
use Rattle.mds_request.specs.declared.call.OperatorCall.TheVariants as operator
use Rattle.mds_desk.specs.CacheKey.{AnswersOperator}
use Rattle.mds_desk.specs.declared.cache_key.CacheKey.TheVariants as ready
use Rattle.mds_desk.proofs.Answering.{policy, geographies, geography}
use Rattle.mds_desk.proofs.cache_key.operator_key.Goals as goal

pub returns-in-Policy : goal.returns-in-Policy
returns-in-Policy c =
    let ps = publications_of c.args.catalogue.now in
    let is : c.args.call.now ≡ operator.Policy c.in-Policy.id = cc in
    subst (λ call. AnswersOperator ps c.args.operator call (ready.Policy c.in-Policy.id)) (sym is)
    (policy ps c.args.operator c.in-Policy.id (sym c.is_policy_visible.ensures ∙ c.if-is_policy_visible.true))

pub returns-in-Geographies : goal.returns-in-Geographies
returns-in-Geographies c =
    let ps = publications_of c.args.catalogue.now in
    subst (λ call. AnswersOperator ps c.args.operator call ready.Geographies) (sym c.in-Geographies.is) (geographies ps c.args.operator)

pub returns-in-Geography : goal.returns-in-Geography
returns-in-Geography c =
    let ps = publications_of c.args.catalogue.now in
    let is : c.args.call.now ≡ operator.Geography c.in-Geography.id = cc in
    subst (λ call. AnswersOperator ps c.args.operator call (ready.Geography c.in-Geography.id)) (sym is)
    (geography ps c.args.operator c.in-Geography.id (sym c.has_geography.ensures ∙ c.if-has_geography.true))
