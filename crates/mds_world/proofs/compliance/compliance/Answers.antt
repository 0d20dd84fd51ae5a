use Rattle.std.proofs.Common.{◌≡◌, map, refl, ap, ◌∙◌}
use Rattle.std.specs.FinMap.{values}
use Rattle.mds_match.specs.Zone.{local_of}
use Rattle.mds_catalog.specs.Catalogue.{publications_of, lent_policy}
use Rattle.mds_catalog.specs.Publication.{in_force}
use Rattle.mds_machine.specs.Bodies.{list_json}
use Rattle.mds_request.specs.Configuration.{operator}
use Rattle.mds_world.proofs.Distinct.{all_own}
use Rattle.mds_world.proofs.Replies.{all_told, local_told, report}
use Rattle.mds_world.proofs.compliance.compliance.Goals as goal

pub policy_reports-requires-clause-published : goal.policy_reports-requires-clause-published
policy_reports-requires-clause-published g c =
    all_own (publications_of c.args.catalogue.now) c.args.asked.now.operator.now.id c.args.asked.now.request.now.at c.deref.result.now c.requires.lawful (ap (map lent_policy) c.deref.ensures.value ∙ c.in_ok-policies.ensures)

pub returns-clause-reply : goal.returns-clause-reply
returns-clause-reply g c =
    let rows = values c.args.book.now.rows in
    let policies : map lent_policy c.deref.result.now ≡ in_force (publications_of c.args.catalogue.now) c.args.asked.now.operator.now.id c.args.asked.now.request.now.at =
    ap (map lent_policy) c.deref.ensures.value ∙ c.in_ok-policies.ensures in
    let local : c.in_ok-local.local ≡ local_of c.args.asked.now.zone.now c.args.asked.now.request.now.at = local_told _ _ _ c.in_ok-local.was c.local.ensures in
    all_told c.args.asked.now.zone.now (operator c.args.asked.now.operator.now) (publications_of c.args.catalogue.now) c.args.book.now.rows c.args.asked.now.request.now.at rows _ _ _ _ refl local
    (c.in_ok-reports.ensures.reports ∙ ap (λ ps. list_json (map (report c.args.asked.now.zone.now (operator c.args.asked.now.operator.now) (publications_of c.args.catalogue.now) c.args.book.now.rows c.args.asked.now.request.now.at rows c.in_ok-local.local) ps)) policies)
    c.revision.ensures.count c.in_ok-reply.ensures
