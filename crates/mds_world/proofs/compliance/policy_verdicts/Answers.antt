use Rattle.std.proofs.Common.{◌≡◌, IfOk, map, ap, subst, ◌∙◌}
use Rattle.std.specs.FinMap.{values}
use Rattle.mds_policy.specs.Policy.{policy_document}
use Rattle.mds_match.specs.Row.{row_of}
use Rattle.mds_verdict.specs.Verdict.{verdict_document, verdicts}
use Rattle.mds_catalog.specs.Catalogue.{publications_of}
use Rattle.mds_catalog.specs.Publication.{published_area}
use Rattle.mds_world.proofs.compliance.policy_verdicts.Goals as goal

-- the vehicles for the evaluator are those of the book
pub returns-clause-exact : goal.returns-clause-exact
returns-clause-exact g c =
    let rows : map (λ v. row_of v.now) c.deref.result.now ≡ values c.args.book.now.rows =
    ap (λ vehicles. map (λ v. row_of v.now) vehicles) c.deref.ensures.value ∙ c.in_ok-vehicles.ensures.whole ∙ ap values c.index_verdicts.ensures.rows in
    subst (λ rs. IfOk c.verdicts.result (λ found. map verdict_document found.items ≡ verdicts (policy_document c.args.policy.now) (published_area (publications_of c.args.catalogue.now)) rs c.args.at.now.local c.args.at.now.moment)) rows
    c.verdicts.ensures.exact
