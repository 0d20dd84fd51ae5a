use Rattle.std.proofs.Common.{◌≡◌, sym, subst, ◌∙◌}
use Rattle.mds_catalog.specs.Catalogue.{publications_of}
use Rattle.mds_request.specs.declared.call.AuthorCall.TheVariants as author
use Rattle.mds_desk.specs.CacheKey.{AnswersAuthor}
use Rattle.mds_desk.specs.declared.cache_key.CacheKey.TheVariants as ready
use Rattle.mds_desk.proofs.Answering.{authors_policies, authors_policy, authors_geographies, authors_geography}
use Rattle.mds_desk.proofs.cache_key.author_key.Goals as goal

pub returns-in-Policies : goal.returns-in-Policies
returns-in-Policies c =
    let ps = publications_of c.args.catalogue.now in
    subst (λ call. AnswersAuthor ps call ready.AllPolicies) (sym c.in-Policies.is) (authors_policies ps)

pub returns-in-Policy : goal.returns-in-Policy
returns-in-Policy c =
    let ps = publications_of c.args.catalogue.now in
    let is : c.args.call.now ≡ author.Policy c.in-Policy.id = cc in
    subst (λ call. AnswersAuthor ps call (ready.Policy c.in-Policy.id)) (sym is)
    (authors_policy ps c.in-Policy.id (sym c.is_policy_visible.ensures ∙ c.if-is_policy_visible.true))

pub returns-in-Geographies : goal.returns-in-Geographies
returns-in-Geographies c =
    let ps = publications_of c.args.catalogue.now in
    subst (λ call. AnswersAuthor ps call ready.Geographies) (sym c.in-Geographies.is) (authors_geographies ps)

pub returns-in-Geography : goal.returns-in-Geography
returns-in-Geography c =
    let ps = publications_of c.args.catalogue.now in
    let is : c.args.call.now ≡ author.Geography c.in-Geography.id = cc in
    subst (λ call. AnswersAuthor ps call (ready.Geography c.in-Geography.id)) (sym is)
    (authors_geography ps c.in-Geography.id (sym c.has_geography.ensures ∙ c.if-has_geography.true))
