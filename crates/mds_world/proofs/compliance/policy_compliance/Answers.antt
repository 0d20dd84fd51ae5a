use Rattle.std.proofs.Common.{◌≡◌, true, refl, ◌∙◌, sym}
use Rattle.std.specs.FinMap.{values}
use Rattle.mds_match.specs.Zone.{local_of}
use Rattle.mds_catalog.specs.Catalogue.{publications_of, lent_policy}
use Rattle.mds_catalog.specs.Publication.{is_in_force}
use Rattle.mds_request.specs.Configuration.{operator}
use Rattle.mds_world.proofs.Distinct.{found_own}
use Rattle.mds_world.proofs.Replies.{one_told, local_told}
use Rattle.mds_world.proofs.compliance.policy_compliance.Goals as goal

pub policy_report-requires-clause-published : goal.policy_report-requires-clause-published
policy_report-requires-clause-published g c =
    found_own (publications_of c.args.catalogue.now) c.args.id (lent_policy c.in-Some.found) c.in-Some.ensures

pub returns-clause-answer : goal.returns-clause-answer
returns-clause-answer g c =
    let local : c.in_ok-local.local ≡ local_of c.args.asked.now.zone.now c.args.asked.now.request.now.at = local_told _ _ _ c.in_ok-local.was c.local.ensures in
    let binds : is_in_force (publications_of c.args.catalogue.now) c.args.asked.now.operator.now.id c.args.asked.now.request.now.at (lent_policy c.in-Some.found) ≡ true = sym c.is_in_force.ensures ∙ c.if-not-is_in_force.false in
    one_told c.args.asked.now.zone.now (operator c.args.asked.now.operator.now) (publications_of c.args.catalogue.now) c.args.book.now.rows c.args.asked.now.request.now.at c.args.id (lent_policy c.in-Some.found) (values c.args.book.now.rows) _ _ _ _ c.in-Some.ensures binds refl local c.in_ok-report.ensures.report c.revision.ensures.count c.in_ok-reply.ensures
