use Rattle.std.proofs.Common.{length, codes, ap, sym, ◌∙◌}
use Rattle.mds_catalog.specs.Catalogue.{publications_of, lent_policy}
use Rattle.mds_request.specs.Reply.{success}
use Rattle.mds_machine.specs.Published.{policy_json}
use Rattle.mds_world.proofs.Joined.{policy_answered, policy_text_is, told_body}
use Rattle.mds_world.proofs.published.policy.Goals as goal

pub ok-requires : goal.ok-requires
ok-requires c =
    let publications = publications_of c.args.catalogue.now in
    let found = lent_policy c.in-Some-Some.found in
    let text = policy_text_is publications c.args.id c.in-Some-Some.text.now found c.in-Some-Some.ensures c.in-Some-Some.ensures' in
    let body = told_body (codes "policy") c.in-Some-Some.text.now c.in_ok-body.body.items (policy_json found) c.revision.result (length publications) c.in_ok-body.ensures text c.revision.ensures.count in
    body.line

pub returns : goal.returns
returns c =
    let publications = publications_of c.args.catalogue.now in
    let found = lent_policy c.in-Some-Some.found in
    let text = policy_text_is publications c.args.id c.in-Some-Some.text.now found c.in-Some-Some.ensures c.in-Some-Some.ensures' in
    let body = told_body (codes "policy") c.in-Some-Some.text.now c.in_ok-body.body.items (policy_json found) c.revision.result (length publications) c.in_ok-body.ensures text c.revision.ensures.count in
    policy_answered publications c.args.operator c.args.id found c.ok.result c.in-Some-Some.ensures (sym c.if-not-is_visible_to.ensures) (c.ok.ensures ∙ ap success body.is)
